-- Registers move, and the other cells take their values.
use Rattle.std.proofs.Common.{◌∙◌, ap}
use Rattle.dft_registers.specs.Cells.{shifts_if}
use Rattle.dft_registers.proofs.MoveLemmas.{flagged, sound_flags}
use Rattle.dft_logic.specs.Circuit.{Circuit}
use Rattle.dft_fault_lanes.proofs.MoveLemmas.{shifted_wides, moves_taken}
use Rattle.dft_fault_lanes.proofs.pulsing.take_rises.Goals as goal

pub shift-requires : goal.shift-requires
shift-requires c =
    let moves = c.args.play.plan.now.moves.items in
    rw c.deref.ensures.value (record { rest = flagged moves 0 ∙ ap shifts_if c.requires.plan.1.rests; sound = sound_flags moves _ })

pub take-requires-clause-live : goal.take-requires-clause-live
take-requires-clause-live c = rw (c.deref-2.ensures.value, ap (λ (m : Circuit). m.flops) c.circuit.view_is, c.deref-3.ensures.value) (λ place h. (c.requires.plan.1.taking.1 place h).0)

pub take-requires-clause-count : goal.take-requires-clause-count
take-requires-clause-count c = rw (c.deref-2.ensures.value, ap (λ (m : Circuit). m.flops) c.circuit.view_is) (c.shift.ensures.count ∙ c.requires.count)

pub take-requires-clause-rest : goal.take-requires-clause-rest
take-requires-clause-rest c =
    rw c.deref-3.ensures.value (shifted_wides c.args.play.circuit.now c.args.play.clamps.now c.requires.plan.0 c.args.play.plan.now c.args.cells.now c.shift.new.self c.requires.plan.1 c.requires.count (rw c.deref.ensures.value at c.shift.ensures) c.requires.cells)

pub returns-clause-layout : goal.returns-clause-layout
returns-clause-layout c = c.take.ensures.layout ∙ c.shift.ensures.layout

pub returns-clause-count : goal.returns-clause-count
returns-clause-count c = c.take.ensures.count ∙ c.shift.ensures.count

pub returns-clause-taken : goal.returns-clause-taken
returns-clause-taken c = λ settled.
    moves_taken c.args.play.circuit.now c.args.play.clamps.now c.requires.plan.0 c.args.play.plan.now c.args.play.ports.now c.args.wides.now c.args.cells.now c.shift.new.self c.take.new.cells c.requires.plan.1 c.requires.count c.requires.nets c.requires.steers c.requires.free c.requires.idle
    (rw c.deref.ensures.value at c.shift.ensures) c.take.ensures.count (rw (c.deref-2.ensures.value, ap (λ (m : Circuit). m.flops) c.circuit.view_is, c.deref-3.ensures.value) at c.take.ensures.taken) (rw c.deref-3.ensures.value at c.take.ensures.kept) settled
