-- It takes a value, and that of the cell before it.
use Rattle.std.proofs.Common.{ℕ, List, ◌∙◌, sym, subst}
use Rattle.dft_registers.specs.declared.layout.Place.{Place}
use Rattle.dft_registers.specs.Layout.{Layout, cells_at}
use Rattle.dft_registers.specs.Cells.{Course, course_from}
use Rattle.dft_logic.specs.Circuit.{cell_of}
use Rattle.dft_fault_lanes.specs.Moves.{IsMoved}
use Rattle.dft_fault_lanes.proofs.moves.may_move.Goals as goal

pub returns : goal.returns
returns c = λ up.
    let l : Layout = c.args.cells.now.layout in
    let M : Course → Type 0 = IsMoved c.args.wiring.circuit.now.ops c.args.wiring.clamps.now c.args.wiring.steer (cell_of c.args.flop.now) in
    let found = subst (λ (r : List ℕ). M (course_from r c.place-place.result.index)) c.register.ensures.cells (c.is_moved.ensures up) in
    (sym c.changes.ensures ∙ c.if-not-changes.false, subst (λ (p : Place). M (course_from (cells_at l.registers p.register) p.index)) c.place-place.ensures.at found)
