-- The nets so far.
use Rattle.std.proofs.Common.{◌≡◌, ◌++◌, map, take}
use Rattle.dft_netlist.specs.declared.ids.NetId.{NetId}
use Rattle.dft_evaluator.specs.Evaluations.{value_at}
use Rattle.dft_expect.proofs.reading.push_values.Given as goal

abbrev pub invariant-loop-net : goal.invariant-loop-net
invariant-loop-net l = l.values.items ≡ l.initial.values.items ++ map (λ (net : NetId). value_at l.evaluator l.pattern net.0) (take l.net-index l.nets)
