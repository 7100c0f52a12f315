-- All registers but the first, without those that are left out.
use Rattle.std.proofs.Common.{ap}
use Rattle.dft_logic.specs.Circuit.{Circuit}
use Rattle.dft_fault_lanes.proofs.moves.find_moves.Goals as goal

pub leave_moving-requires-clause-cells : goal.leave_moving-requires-clause-cells
leave_moving-requires-clause-cells c = rw (c.deref.ensures.value, ap (λ (m : Circuit). m.flops) c.circuit.view_is) c.requires

pub returns-clause-moving : goal.returns-clause-moving
returns-clause-moving c = rw (c.deref.ensures.value, ap (λ (m : Circuit). m.flops) c.circuit.view_is) at c.leave_moving.ensures.moving
