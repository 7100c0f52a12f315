-- One cell more may move, or its register is left out.
use Rattle.std.proofs.Common.{ℕ, ◌<◌, ◌∙◌, ◌+◌, Bool, List, ap, arith, length, sym, subst}
use Rattle.std.proofs.lemmas.List.{get_or_default}
use Rattle.dft_registers.specs.declared.layout.Place.{Place}
use Rattle.dft_logic.specs.Circuit.{flag_at}
use Rattle.dft_fault_lanes.proofs.MoveLemmas.{MovingTo, moving_starts, moving_less, moving_more}
use Rattle.dft_fault_lanes.proofs.moves.leave_moving.Goals.{then-not-may_move, else-not-may_move}
use Rattle.dft_fault_lanes.proofs.moves.leave_moving.Goals as goal

pub loop-cell-init : goal.loop-cell-init
loop-cell-init c =
    moving_starts c.args.wiring.circuit.now.ops c.args.wiring.clamps.now c.args.flops.now c.args.wiring.steer c.args.pulsed.now c.args.cells.now.layout c.args.moves.now c.requires.rests

pub loop-cell-preserved : goal.loop-cell-preserved
loop-cell-preserved c =
    let flops = c.args.flops.now in
    let cell : ℕ = c.loop-cell.cell in
    let less : cell < length flops = c.loop-cell-test.true in
    let P : List Bool → Type 0 = λ m. MovingTo c.args.wiring.circuit.now.ops c.args.wiring.clamps.now flops c.args.wiring.steer c.args.pulsed.now c.args.cells.now.layout m (cell + 1) in
    elim c.if-not-may_move.branch [
      | then-not-may_move w ↦ subst P (sym w.moves-is) (moving_less c.args.wiring.circuit.now.ops c.args.wiring.clamps.now flops c.args.wiring.steer c.args.pulsed.now c.args.cells.now.layout c.loop-cell.moves w.leave_out.new.moves cell w.leave_out.ensures.fewer
          (ap (λ (p : Place). flag_at w.leave_out.new.moves p.register) (sym w.place.ensures.at) ∙ w.leave_out.ensures.out) c.loop-cell.invariant)
      | else-not-may_move w ↦ subst P (sym w.moves-is) (moving_more c.args.wiring.circuit.now.ops c.args.wiring.clamps.now flops c.args.wiring.steer c.args.pulsed.now c.args.cells.now.layout c.loop-cell.moves c.loop-cell.moves cell _ less
          (get_or_default flops cell _ _ less) (λ r up. up) (λ up. c.may_move.ensures w.if-not-may_move.false) c.loop-cell.invariant)
    ]

pub returns-clause-rests : goal.returns-clause-rests
returns-clause-rests c = c.loop-cell.invariant.rests

pub returns-clause-moving : goal.returns-clause-moving
returns-clause-moving c = λ cell less up. c.loop-cell.invariant.each cell (omega (arith, less, c.loop-cell-test.false)) up
