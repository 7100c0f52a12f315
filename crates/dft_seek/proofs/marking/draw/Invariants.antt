-- The nets from this place on are drawn from.
use Rattle.std.proofs.Common.{drop}
use Rattle.dft_netlist.specs.Orders.{numbers_of}
use Rattle.dft_seek.specs.Marks.{Draws, steps_at}
use Rattle.dft_seek.proofs.marking.draw.Given as goal

abbrev pub invariant-loop-place : goal.invariant-loop-place
invariant-loop-place l = Draws (steps_at l.paths.steps.now) (numbers_of (drop l.place l.paths.order.now)) l.initial.marked l.marked l.any
