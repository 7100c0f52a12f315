use Rattle.std.proofs.Common.{◌-◌}
use Rattle.std.specs.List.{range_with_len}
use Rattle.dft_parts.specs.Recipes.{a_net}
use Rattle.dft_parts.proofs.Runs.{Collects}
use Rattle.dft_edt.proofs.stages.make_nets.Given as goal

abbrev pub invariant-loop-number : goal.invariant-loop-number
invariant-loop-number l = Collects (λ _. a_net) (range_with_len 0 l.count) (range_with_len l.number (l.count - l.number)) l.fn.parts l.parts l.nets.items
