-- It has no bounds, and its driver is the cell.
use Rattle.std.proofs.Common.{◌∙◌, ap, Option}
use Rattle.dft_logic.specs.Circuit.{Circuit, op_at}
use Rattle.dft_fault_lanes.specs.declared.clamps.Clamp.{Clamp}
use Rattle.dft_fault_lanes.specs.Seen.{shown_within}
use Rattle.dft_fault_lanes.proofs.moves.is_cell.Goals as goal

pub returns : goal.returns
returns c = λ up.
    ap (λ (o : Option Clamp). shown_within o (op_at c.args.wiring.circuit.now.ops c.args.net.0)) (c.is_bound.ensures c.if-is_bound.false) ∙ (rw (c.deref.ensures.value, ap (λ (m : Circuit). m.ops) c.circuit.view_is) at c.is_driver.ensures) up
