-- What nets show, which lanes stay live, what cells take.
use Rattle.std.proofs.Common.{◌∙◌, ap, [], false}
use Rattle.dft_logic.specs.Circuit.{Circuit}
use Rattle.dft_fault_lanes.specs.Idle.{is_left}
use Rattle.dft_fault_lanes.proofs.CellLemmas.{places_taken}
use Rattle.dft_fault_lanes.proofs.IdleLemmas.{left_falls}
use Rattle.dft_fault_lanes.proofs.PlanLemmas.{none_left}
use Rattle.dft_fault_lanes.proofs.pulsing.fall_with.Goals as goal

pub take-requires-clause-live : goal.take-requires-clause-live
take-requires-clause-live c = rw (c.deref.ensures.value, ap (λ (m : Circuit). m.flops) c.circuit.view_is, c.deref-2.ensures.value) (λ place h. (c.requires.plan.1.falling.1 place h).0)

pub take-requires-clause-count : goal.take-requires-clause-count
take-requires-clause-count c = rw (c.deref.ensures.value, ap (λ (m : Circuit). m.flops) c.circuit.view_is) c.requires.count

pub take-requires-clause-rest : goal.take-requires-clause-rest
take-requires-clause-rest c = λ cell none. c.requires.cells cell

pub returns-clause-phase : goal.returns-clause-phase
returns-clause-phase c =
    let p = c.args.play.plan.now in
    let flops = c.args.play.circuit.now.flops in
    record {
      shown = p.falls.items;
      shows = c.requires.plan.1.falls;
      steady = c.keep_falls.ensures.steady;
      taken = places_taken flops false p.pulsed.items (is_left c.args.cells.now.layout [] flops) p.falling.items c.args.play.ports.now c.args.wides.now c.args.cells.now.values c.take.new.cells.values c.requires.count (c.take.ensures.count ∙ c.requires.count)
          c.requires.plan.1.falling (λ cell up. left_falls c.args.cells.now.layout flops p.pulsed.items cell (none_left c.args.cells.now.layout cell) up) (rw (c.deref.ensures.value, ap (λ (m : Circuit). m.flops) c.circuit.view_is, c.deref-2.ensures.value) at c.take.ensures.taken) (rw c.deref-2.ensures.value at c.take.ensures.kept);
    }
