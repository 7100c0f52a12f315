use Rattle.std.proofs.Common.{◌-◌}
use Rattle.std.specs.List.{range_with_len}
use Rattle.dft_parts.proofs.Runs.{Goes}
use Rattle.dft_edt.specs.RingRecipe.{a_stage}
use Rattle.dft_edt.proofs.stages.make_stages.Given as goal

abbrev pub invariant-loop-stage : goal.invariant-loop-stage
invariant-loop-stage l = Goes (a_stage l.ring l.ports l.run l.stages) (range_with_len 0 l.ring.stages) (range_with_len l.stage (l.ring.stages - l.stage)) l.fn.parts l.parts
