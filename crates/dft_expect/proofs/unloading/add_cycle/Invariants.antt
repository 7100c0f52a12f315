-- The outputs so far, and the rest.
use Rattle.std.proofs.Common.{◌≡◌, ◌++◌, map, drop, length}
use Rattle.dft_config.specs.Ring.{Table}
use Rattle.dft_stitch.specs.Plans.{falling_head}
use Rattle.dft_expect.specs.Masks.{by_chain}
use Rattle.dft_expect.specs.Expected.{output_bit}
use Rattle.dft_expect.specs.States.{AreStates}
use Rattle.dft_expect.proofs.unloading.add_cycle.Given as goal

abbrev pub invariant-loop-group : goal.invariant-loop-group
invariant-loop-group l =
    (table : Table) → AreStates l.unload.ring.now table (length l.unload.states.now) l.unload.states.now
    → l.expected.items ++ map (output_bit l.unload.ring.now table (falling_head l.unload.chains.now) l.masks (by_chain l.unload.chains.now.chains l.unload.values.now) l.cycle) (drop l.group-index l.groups)
    ≡ l.initial.expected.items ++ map (output_bit l.unload.ring.now table (falling_head l.unload.chains.now) l.masks (by_chain l.unload.chains.now.chains l.unload.values.now) l.cycle) l.groups
