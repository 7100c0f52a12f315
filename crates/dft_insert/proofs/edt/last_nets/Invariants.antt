use Rattle.std.proofs.Common.{◌≡◌, ◌++◌, drop, map}
use Rattle.dft_insert.specs.Chained.{last_net}
use Rattle.dft_insert.proofs.edt.last_nets.Given as goal

abbrev pub invariant-loop-row : goal.invariant-loop-row
invariant-loop-row l = l.nets.items ++ map last_net (drop l.row-index l.rows) ≡ map last_net l.rows
