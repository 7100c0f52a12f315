use Rattle.std.proofs.Common.{◌≡◌, ◌+◌, ◌-◌, ◌++◌}
use Rattle.dft_netlist.specs.NetNumbers.{nets_from}
use Rattle.dft_insert.proofs.edt.nets_from.Given as goal

abbrev pub invariant-loop-number : goal.invariant-loop-number
invariant-loop-number l = l.nets.items ++ nets_from (l.first + l.number) (l.count - l.number) ≡ nets_from l.first l.count
