use Rattle.std.proofs.Common.{◌≡◌, ◌++◌, drop, map}
use Rattle.dft_parts.specs.Recipes.{net_at}
use Rattle.dft_edt.proofs.phases.phase_terms.Given as goal

abbrev pub invariant-loop-stage : goal.invariant-loop-stage
invariant-loop-stage l = l.terms.items ++ map (net_at l.stages) (drop l.stage-index l.set) ≡ map (net_at l.stages) l.set
