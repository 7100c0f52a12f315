-- The bits of the cycles so far.
use Rattle.dft_base.specs.Packed.{packed_bit}
use Rattle.dft_stitch.specs.Plans.{falling_head}
use Rattle.dft_expect.specs.Loaded.{table_of}
use Rattle.dft_expect.specs.Masks.{by_chain}
use Rattle.dft_expect.proofs.UnloadLemmas.{IsUnloading}
use Rattle.dft_expect.proofs.unloading.expected.Given as goal

abbrev pub invariant-loop-cycle : goal.invariant-loop-cycle
invariant-loop-cycle l =
    IsUnloading l.config.ring l.config.compactor.groups (table_of l.config.ring (packed_bit l.next)) (falling_head l.chains) l.masks (by_chain l.chains.chains l.response.cells) l.chains.cycles l.cycle l.expected.items
