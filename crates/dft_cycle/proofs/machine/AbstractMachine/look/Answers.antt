-- The nets are looked at by their list, or all nets are settled.
use Rattle.std.proofs.Common.{◌∙◌, sym, subst, List}
use Rattle.dft_base.specs.declared.tri.Tri.{Tri}
use Rattle.dft_base.proofs.ListLemmas.{refilled_length}
use Rattle.dft_behavior.specs.Logic.{Logic}
use Rattle.dft_takings.specs.Needs.{AreSeen}
use Rattle.dft_logic.specs.Circuit.{logic_at}
use Rattle.dft_cycle.specs.Machine.{Machine, logic, value_at}
use Rattle.dft_cycle.proofs.MachineLemmas.{clear_kept}
use Rattle.dft_cycle.proofs.machine.AbstractMachine.look.Goals as goal

pub invariant_of-self : goal.invariant_of-self
unfolding logic
invariant_of-self c =
    let i = c.self.invariant in
    let d = c.self.inside in
    record {
      compiled = i.compiled;
      falling = i.falling;
      owned = i.owned;
      live = i.live;
      nets = i.nets;
      pulsed = i.pulsed;
      inputs = i.inputs;
      shown = i.shown;
      room = record {
        values = i.room.values;
        search = i.room.search;
        marked = refilled_length d.room.marked c.read-read.new.marked ∙ i.room.marked;
        clear = clear_kept d.room.marked c.read-read.new.marked c.deref_mut-2.result.now c.read-read.auto.marked c.deref_mut-2.ensures.value c.read-read.ensures.clear;
        ready = i.room.ready;
        quick = refilled_length d.room.quick c.read-read.new.values ∙ i.room.quick;
      };
      cells = i.cells;
      plans = i.plans;
      looks = c.read-read.ensures.looks;
      loose = i.loose;
      flags = i.flags;
    }

pub invariant_of-self-else-not-read : goal.invariant_of-self-else-not-read
unfolding logic
invariant_of-self-else-not-read c =
    let i = c.self.invariant in
    let d = c.self.inside in
    record {
      compiled = i.compiled;
      falling = i.falling;
      owned = i.owned;
      live = i.live;
      nets = i.nets;
      pulsed = i.pulsed;
      inputs = i.inputs;
      shown = i.shown;
      room = record {
        values = i.room.values;
        search = i.room.search;
        marked = refilled_length d.room.marked c.read-read.new.marked ∙ i.room.marked;
        clear = clear_kept d.room.marked c.read-read.new.marked c.deref_mut-2.result.now c.read-read.auto.marked c.deref_mut-2.ensures.value c.read-read.ensures.clear;
        ready = i.room.ready;
        quick = refilled_length d.room.quick c.read-read.new.values ∙ i.room.quick;
      };
      cells = i.cells;
      plans = i.plans;
      looks = c.read-read.ensures.looks;
      loose = i.loose;
      flags = i.flags;
    }

pub returns-then-not-read-clause-seen : goal.returns-then-not-read-clause-seen
returns-then-not-read-clause-seen c =
    let P : Machine → Type 0 = λ m. AreSeen (logic m) (value_at m.inputs) (value_at m.cells) c.args.nets.now c.look_at_all.new.values in
    subst P c.self.view_is c.look_at_all.ensures.seen

pub returns-else-not-read-clause-seen : goal.returns-else-not-read-clause-seen
returns-else-not-read-clause-seen c =
    let d = c.self.inside in
    let P : Machine → Type 0 = λ m. AreSeen (logic m) (value_at m.inputs) (value_at m.cells) c.args.nets.now c.read-read.new.row in
    let I : List Tri → Type 0 = λ l. AreSeen (logic_at d.circuit) (value_at l) (value_at d.cells.values) c.args.nets.now c.read-read.new.row in
    let L : Logic → Type 0 = λ l. AreSeen l (value_at d.inputs.items) (value_at d.cells.values) c.args.nets.now c.read-read.new.row in
    let seen = subst I c.deref.ensures.value (c.read-read.ensures.seen c.if-not-read.false) in
    subst P c.self.view_is (subst L (sym c.self.invariant.compiled) seen)
