-- The registers that move yet are those in which the cells before this one may move.
use Rattle.dft_fault_lanes.proofs.MoveLemmas.{MovingTo}
use Rattle.dft_fault_lanes.proofs.moves.leave_moving.Given as goal

abbrev pub invariant-loop-cell : goal.invariant-loop-cell
invariant-loop-cell l = MovingTo l.wiring.circuit.now.ops l.wiring.clamps.now l.flops l.wiring.steer l.pulsed l.cells.layout l.moves l.cell
