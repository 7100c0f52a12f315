-- The nets have the values of every settled assignment.
use Rattle.std.proofs.Common.{ℕ, ◌≡◌, ◌∙◌, refl, ap, map, subst, List}
use Rattle.dft_base.specs.declared.tri.Tri.{Tri}
use Rattle.dft_base.proofs.ListLemmas.{refilled_length, refilled_items}
use Rattle.dft_cycle.specs.Machine.{Machine, logic, value_at}
use Rattle.dft_takings.specs.Needs.{AreSeen}
use Rattle.dft_netlist.specs.declared.ids.NetId.{NetId}
use Rattle.dft_cycle.specs.MachineShown.{machine_of}
use Rattle.dft_takings.specs.declared.settling.Pulse.{Pulse as Phase}
use Rattle.dft_logic.specs.Circuit.{logic_at}
use Rattle.dft_takings.specs.Views.{GivenIn, pulse_at}
use Rattle.dft_cycle.proofs.DomainLemmas.{ready_view}
use Rattle.dft_cycle.proofs.MachineLemmas.{looked, clear_kept, ready_kept}
use Rattle.dft_cycle.proofs.machine.AbstractMachine.look_at_all.Goals as goal

pub invariant_of-self : goal.invariant_of-self
unfolding logic
invariant_of-self c =
    let i = c.self.invariant in
    let d = c.self.inside in
    record {
      compiled = i.compiled;
      falling = i.falling;
      owned = i.owned;
      live = i.live;
      nets = i.nets;
      pulsed = i.pulsed;
      inputs = i.inputs;
      shown = i.shown;
      room = record {
        values = refilled_length d.room.values c.settle_again.new.values ∙ i.room.values;
        search = i.room.search;
        marked = refilled_length d.room.marked c.settle_again.new.marked ∙ i.room.marked;
        clear = clear_kept d.room.marked c.settle_again.new.marked c.deref_mut-2.result.now c.settle_again.auto.marked c.deref_mut-2.ensures.value c.settle_again.ensures.clear;
        ready = ready_kept d.circuit d.room.values c.settle_again.new.values c.deref_mut.result.now c.settle_again.auto.values c.deref_mut.ensures.value
            (ready_view d.circuit c.strobe_view.result c.settle_again.new.values c.settle_again.ensures.given);
        quick = i.room.quick;
      };
      cells = i.cells;
      plans = i.plans;
      looks = i.looks;
      loose = i.loose;
      flags = i.flags;
    }

pub returns-clause-seen : goal.returns-clause-seen
unfolding logic_at
returns-clause-seen c =
    let d = c.self.inside in
    let v = c.strobe_view.result in
    let V : Phase → Type 0 = λ p. (k : ℕ) → GivenIn d.circuit (pulse_at p) v.poss.now v.held.now v.domain.0 c.settle_again.new.values k in
    let P : Machine → Type 0 = λ m. AreSeen (logic m) (value_at m.inputs) (value_at m.cells) c.args.nets.now c.read_list.new.row in
    let read : c.deref-2.result.now ≡ c.settle_again.new.values = c.deref-2.ensures.value ∙ refilled_items d.room.values c.settle_again.new.values c.deref_mut.result.now c.settle_again.auto.values c.deref_mut.ensures.value in
    subst P c.self.view_is
    (looked (machine_of d) d.circuit c.deref.result.now d.cells.values v.poss.now v.held.now c.settle_again.new.values c.read_list.new.row v.domain.0 c.args.nets.now c.soundness.ensures c.self.invariant.compiled
    c.deref.ensures.value refl (subst V c.strobe_view.ensures.pulse c.settle_again.ensures.given)
    (c.read_list.ensures ∙ ap (λ (l : List Tri). map (λ (net : NetId). value_at l net.0) c.args.nets.now) read))
