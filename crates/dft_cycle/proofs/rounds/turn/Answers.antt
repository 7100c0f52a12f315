-- A turn stays below all closed maps, and one that changes nothing has the next values.
use Rattle.std.proofs.Common.{ℕ, List, ◌≡◌, ◌<◌, ◌∙◌, ap, sym, length, count_by, inl, inr, subst}
use Rattle.std.specs.Vec.{with_items}
use Rattle.dft_base.specs.declared.tri.Tri.{Tri}
use Rattle.dft_base.specs.Tri.{AboveTri, is_known}
use Rattle.dft_base.proofs.ListLemmas.{refilled_length, refilled_items}
use Rattle.dft_abstract.specs.Cycle.{AreViews}
use Rattle.dft_cycle.specs.Machine.{value_at}
use Rattle.dft_cycle.specs.Views.{StaysBelow, AreNext}
use Rattle.dft_logic.specs.Circuit.{Circuit, IsCircuit, logic_at}
use Rattle.dft_takings.specs.Views.{pulse_at}
use Rattle.dft_cycle.proofs.AloneLemmas.{turn_alone}
use Rattle.dft_cycle.proofs.Risings.{turn_above, turn_below, turn_done}
use Rattle.dft_cycle.proofs.SearchLemmas.{next_at, raised_from}
use Rattle.dft_cycle.proofs.rounds.turn.Goals as goal

pub returns-clause-search : goal.returns-clause-search
returns-clause-search c =
    let s = c.args.search.now in
    record {
      poss = refilled_length s.poss c.raise-changed.new.poss ∙ c.requires.search.poss;
      held = refilled_length s.held c.hold_lockups.new.held ∙ c.requires.search.held;
      next = refilled_length s.next c.next_values.new.next ∙ c.requires.search.next;
    }

pub returns-clause-above : goal.returns-clause-above
unfolding logic_at
returns-clause-above c =
    let x = c.args.phase.circuit.now in
    let s = c.args.search.now in
    let raised = c.raise-changed.new.poss in
    let next = c.next_values.new.next in
    let kept = refilled_items s.poss raised c.deref_mut-3.result.now c.raise-changed.auto.poss c.deref_mut-3.ensures.value in
    let nexts = c.deref-5.ensures.value ∙ refilled_items s.next next c.deref_mut-2.result.now c.next_values.auto.next c.deref_mut-2.ensures.value in
    subst (λ (l : List Tri). (k : ℕ) → AboveTri (value_at l k) (value_at s.poss.items k)) (sym kept)
    (turn_above x (pulse_at c.args.phase.pulse) next s.poss.items raised c.requires.search.poss (c.raise-changed.auto.poss ∙ ap length c.deref_mut-3.ensures.value)
    (raised_from x (pulse_at c.args.phase.pulse) c.deref-4.result.now c.deref-5.result.now next c.deref_mut-3.result.now s.poss.items raised (c.deref-4.ensures.value ∙ ap (λ (m : Circuit). m.flops) c.circuit.view_is) nexts c.deref_mut-3.ensures.value c.raise-changed.ensures.each))

pub returns-clause-below : goal.returns-clause-below
unfolding logic_at
returns-clause-below c =
    let x = c.args.phase.circuit.now in
    let s = c.args.search.now in
    let held = c.hold_lockups.new.held in
    let raised = c.raise-changed.new.poss in
    let next = c.next_values.new.next in
    let kept = refilled_items s.poss raised c.deref_mut-3.result.now c.raise-changed.auto.poss c.deref_mut-3.ensures.value in
    let holds = c.deref-3.ensures.value ∙ refilled_items s.held held c.deref_mut.result.now c.hold_lockups.auto.held c.deref_mut.ensures.value in
    let nexts = c.deref-5.ensures.value ∙ refilled_items s.next next c.deref_mut-2.result.now c.next_values.auto.next c.deref_mut-2.ensures.value in
    subst (λ (l : List Tri). StaysBelow (logic_at x) (pulse_at c.args.phase.pulse) s.poss.items l) (sym kept)
    (turn_below x (pulse_at c.args.phase.pulse) c.args.phase.clocks.now next s.poss.items raised (subst IsCircuit c.circuit.view_is c.circuit.invariant) c.requires.search.poss (c.raise-changed.auto.poss ∙ ap length c.deref_mut-3.ensures.value)
    (raised_from x (pulse_at c.args.phase.pulse) c.deref-4.result.now c.deref-5.result.now next c.deref_mut-3.result.now s.poss.items raised (c.deref-4.ensures.value ∙ ap (λ (m : Circuit). m.flops) c.circuit.view_is) nexts c.deref_mut-3.ensures.value c.raise-changed.ensures.each)
    c.requires.pulsing (next_at x (pulse_at c.args.phase.pulse) c.args.phase.clocks.now s.poss.items held next c.deref.result.now c.deref-2.result.now c.deref-3.result.now c.deref.ensures.value c.deref-2.ensures.value holds c.hold_lockups.ensures.held c.next_values.ensures.next))

pub returns-clause-done : goal.returns-clause-done
unfolding logic_at
returns-clause-done c = λ off view views.
    (let x = c.args.phase.circuit.now in
    let s = c.args.search.now in
    let held = c.hold_lockups.new.held in
    let raised = c.raise-changed.new.poss in
    let next = c.next_values.new.next in
    let kept = refilled_items s.poss raised c.deref_mut-3.result.now c.raise-changed.auto.poss c.deref_mut-3.ensures.value in
    let taken = refilled_items s.next next c.deref_mut-2.result.now c.next_values.auto.next c.deref_mut-2.ensures.value in
    let holds = c.deref-3.ensures.value ∙ refilled_items s.held held c.deref_mut.result.now c.hold_lockups.auto.held c.deref_mut.ensures.value in
    let nexts = c.deref-5.ensures.value ∙ taken in
    let size = c.next_values.auto.next ∙ ap length c.deref_mut-2.ensures.value ∙ c.requires.search.next in
    let each = raised_from x (pulse_at c.args.phase.pulse) c.deref-4.result.now c.deref-5.result.now next c.deref_mut-3.result.now s.poss.items raised (c.deref-4.ensures.value ∙ ap (λ (m : Circuit). m.flops) c.circuit.view_is) nexts c.deref_mut-3.ensures.value c.raise-changed.ensures.each in
    let has = next_at x (pulse_at c.args.phase.pulse) c.args.phase.clocks.now s.poss.items held next c.deref.result.now c.deref-2.result.now c.deref-3.result.now c.deref.ensures.value c.deref-2.ensures.value holds c.hold_lockups.ensures.held c.next_values.ensures.next in
    let before = subst (λ (l : List Tri). AreViews (logic_at x) (pulse_at c.args.phase.pulse) (value_at l) view) kept views in
    subst (λ (l : List Tri). AreNext (logic_at x) (pulse_at c.args.phase.pulse) view l (with_items s.next next).items) (sym kept) (subst (λ (l : List Tri). AreNext (logic_at x) (pulse_at c.args.phase.pulse) view raised l) (sym taken)
    (elim (c.goes_on.ensures.off off) [
      | inl same ↦ (
          let still : raised ≡ s.poss.items = c.raise-changed.ensures.same same ∙ c.deref_mut-3.ensures.value in
          turn_done x (pulse_at c.args.phase.pulse) c.args.phase.clocks.now next s.poss.items raised view c.requires.search.poss size each c.requires.pulsing still
          (has view (subst (λ (l : List Tri). AreViews (logic_at x) (pulse_at c.args.phase.pulse) (value_at l) view) still before)))
      | inr alone ↦ turn_alone x (pulse_at c.args.phase.pulse) c.args.phase.clocks.now next s.poss.items raised view (subst IsCircuit c.circuit.view_is c.circuit.invariant) c.requires.search.poss (c.raise-changed.auto.poss ∙ ap length c.deref_mut-3.ensures.value) size each c.requires.pulsing (c.requires.alone alone) has before
    ])))

pub returns-clause-fewer : goal.returns-clause-fewer
returns-clause-fewer c = λ on.
    (let s = c.args.search.now in
    let raised = c.raise-changed.new.poss in
    let kept = refilled_items s.poss raised c.deref_mut-3.result.now c.raise-changed.auto.poss c.deref_mut-3.ensures.value in
    subst (λ (l : List Tri). count_by is_known l < count_by is_known s.poss.items) (sym kept)
    (subst (λ (l : List Tri). count_by is_known raised < count_by is_known l) c.deref_mut-3.ensures.value (c.raise-changed.ensures.fewer (c.goes_on.ensures.on on))))
