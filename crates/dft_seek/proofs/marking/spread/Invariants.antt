-- Walks go on to the nets before this one.
use Rattle.std.proofs.Common.{take}
use Rattle.dft_netlist.specs.Orders.{numbers_of}
use Rattle.dft_seek.specs.Marks.{Spreads, steps_at}
use Rattle.dft_seek.proofs.marking.spread.Given as goal

abbrev pub invariant-loop-net : goal.invariant-loop-net
invariant-loop-net l = Spreads (steps_at l.paths.steps.now) (numbers_of (take l.net-index l.paths.order.now)) l.initial.marked l.marked l.any
