-- The bits of the chains so far.
use Rattle.dft_base.specs.Packed.{packed_bit}
use Rattle.dft_stitch.specs.Plans.{falling_head}
use Rattle.dft_expect.specs.Loaded.{table_of}
use Rattle.dft_expect.proofs.LoadedLemmas.{IsLoading}
use Rattle.dft_expect.proofs.loading.loaded.Given as goal

abbrev pub invariant-loop-chain : goal.invariant-loop-chain
invariant-loop-chain l = IsLoading l.config.ring (table_of l.config.ring (packed_bit l.bits)) l.chains.cycles (falling_head l.chains) l.chains.chains l.chain l.loaded.items
