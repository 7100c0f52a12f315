-- The nets so far have their roots.
use Rattle.std.proofs.Common.{drop}
use Rattle.dft_netlist.specs.Orders.{numbers_of}
use Rattle.dft_behavior.proofs.RootTables.{Rooted}
use Rattle.dft_behavior.proofs.tables.find_roots.Given as goal

abbrev pub invariant-loop-net : goal.invariant-loop-net
invariant-loop-net l = Rooted l.design l.roots.items (numbers_of (drop l.net-index l.net-items))
