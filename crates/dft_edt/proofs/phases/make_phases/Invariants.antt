use Rattle.std.proofs.Common.{◌-◌}
use Rattle.std.specs.List.{range_with_len}
use Rattle.dft_parts.proofs.Runs.{Collects}
use Rattle.dft_edt.specs.RingRecipe.{a_phase}
use Rattle.dft_edt.proofs.phases.make_phases.Given as goal

abbrev pub invariant-loop-chain : goal.invariant-loop-chain
invariant-loop-chain l = Collects (a_phase l.ring l.stages) (range_with_len 0 l.chains) (range_with_len l.chain (l.chains - l.chain)) l.fn.parts l.parts l.phases.items
