-- The sum of the chains so far, and of the rest.
use Rattle.std.proofs.Common.{◌≡◌, drop, length}
use Rattle.dft_base.specs.Solutions.{xor}
use Rattle.dft_config.specs.Ring.{Table, sum_of}
use Rattle.dft_stitch.specs.Plans.{falling_head}
use Rattle.dft_expect.specs.Masks.{by_chain}
use Rattle.dft_expect.specs.Expected.{counted_by}
use Rattle.dft_expect.specs.States.{AreStates}
use Rattle.dft_expect.proofs.unloading.output.Given as goal

abbrev pub invariant-loop-chain : goal.invariant-loop-chain
invariant-loop-chain l =
    (table : Table) → AreStates l.unload.ring.now table (length l.unload.states.now) l.unload.states.now
    → xor l.sum (sum_of (counted_by l.unload.ring.now table (falling_head l.unload.chains.now) l.masks (by_chain l.unload.chains.now.chains l.unload.values.now) l.cycle) (drop l.chain-index l.group))
    ≡ sum_of (counted_by l.unload.ring.now table (falling_head l.unload.chains.now) l.masks (by_chain l.unload.chains.now.chains l.unload.values.now) l.cycle) l.group
