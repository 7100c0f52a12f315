use Rattle.std.proofs.Common.{◌≡◌, ◌++◌, flat_map, drop}
use Rattle.dft_report.specs.Written.{variable_text}
use Rattle.dft_report.proofs.cubes.add_each.Given as goal

abbrev pub invariant-loop-variable : goal.invariant-loop-variable
invariant-loop-variable l = l.out.items ++ flat_map variable_text (drop l.variable-index l.variables) ≡ l.fn.out.items ++ flat_map variable_text l.variables
