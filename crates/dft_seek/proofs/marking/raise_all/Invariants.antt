-- The nets before this one are marked.
use Rattle.std.proofs.Common.{take}
use Rattle.dft_netlist.specs.Orders.{numbers_of}
use Rattle.dft_seek.specs.Marks.{Raises}
use Rattle.dft_seek.proofs.marking.raise_all.Given as goal

abbrev pub invariant-loop-net : goal.invariant-loop-net
invariant-loop-net l = Raises l.initial.marked l.marked (numbers_of (take l.net-index l.nets)) l.any
