-- The nets show their settled values.
use Rattle.std.proofs.Common.{ℕ, ◌≡◌, ◌∙◌, refl, subst}
use Rattle.std.specs.Vec.{with_items}
use Rattle.dft_base.proofs.ListLemmas.{refilled_length, refilled_items}
use Rattle.dft_cycle.specs.Machine.{Machine, logic, IsStrobed}
use Rattle.dft_cycle.specs.MachineShown.{machine_of}
use Rattle.dft_takings.specs.declared.settling.Pulse.{Pulse as Phase}
use Rattle.dft_logic.specs.Circuit.{logic_at}
use Rattle.dft_takings.specs.Views.{GivenIn, pulse_at}
use Rattle.dft_cycle.proofs.DomainLemmas.{ready_view}
use Rattle.dft_cycle.proofs.MachineLemmas.{strobed, clear_kept, ready_kept}
use Rattle.dft_cycle.proofs.machine.AbstractMachine.strobe.Goals as goal

pub invariant_of-self : goal.invariant_of-self
unfolding logic
invariant_of-self c =
    let i = c.self.invariant in
    let d = c.self.inside in
    record {
      compiled = i.compiled;
      falling = i.falling;
      owned = i.owned;
      live = i.live;
      nets = i.nets;
      pulsed = i.pulsed;
      inputs = i.inputs;
      shown = refilled_length d.shown c.copy_from_slice.new.self ∙ i.shown;
      room = record {
        values = refilled_length d.room.values c.settle_again.new.values ∙ i.room.values;
        search = i.room.search;
        marked = refilled_length d.room.marked c.settle_again.new.marked ∙ i.room.marked;
        clear = clear_kept d.room.marked c.settle_again.new.marked c.deref_mut-2.result.now c.settle_again.auto.marked c.deref_mut-2.ensures.value c.settle_again.ensures.clear;
        ready = ready_kept d.circuit d.room.values c.settle_again.new.values c.deref_mut.result.now c.settle_again.auto.values c.deref_mut.ensures.value
            (ready_view d.circuit c.strobe_view.result c.settle_again.new.values c.settle_again.ensures.given);
        quick = i.room.quick;
      };
      cells = i.cells;
      plans = i.plans;
      looks = i.looks;
      loose = i.loose;
      flags = i.flags;
    }

pub returns : goal.returns
unfolding logic_at
returns c =
    let d = c.self.inside in
    let shown = with_items d.shown c.copy_from_slice.new.self in
    let after : Machine = record { netlist = d.design.now; clocks = d.clocks.items; inputs = d.inputs.items; cells = d.cells.values; shown = shown.items } in
    let v = c.strobe_view.result in
    let P : Machine → Type 0 = λ m. IsStrobed (logic m) m after in
    let V : Phase → Type 0 = λ p. (k : ℕ) → GivenIn d.circuit (pulse_at p) v.poss.now v.held.now v.domain.0 c.settle_again.new.values k in
    let copied : c.copy_from_slice.new.self ≡ c.settle_again.new.values =
    c.copy_from_slice.ensures.after ∙ c.deref-2.ensures.value ∙ refilled_items d.room.values c.settle_again.new.values c.deref_mut.result.now c.settle_again.auto.values c.deref_mut.ensures.value in
    subst P c.self.view_is
    (strobed (machine_of d) after d.circuit c.deref.result.now d.cells.values v.poss.now v.held.now c.settle_again.new.values v.domain.0 c.self.invariant.compiled refl refl refl refl
    c.deref.ensures.value refl (subst V c.strobe_view.ensures.pulse c.settle_again.ensures.given)
    (refilled_items d.shown c.copy_from_slice.new.self c.as_mut_slice.result.now c.copy_from_slice.ensures.len c.as_mut_slice.ensures.value ∙ copied))
