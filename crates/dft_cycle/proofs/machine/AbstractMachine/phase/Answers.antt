-- The phase is taken by a plan, or by the views.
use Rattle.std.proofs.Common.{ℕ, ◌<◌, Bool, true, Some, slice_get, ◌≡◌, ◌∙◌, refl, ap, sym, subst, length, List, arith}
use Rattle.std.specs.Vec.{with_items}
use Rattle.dft_base.specs.declared.tri.Tri.{Tri}
use Rattle.dft_base.proofs.ListLemmas.{refilled_length, refilled_items}
use Rattle.dft_netlist.specs.declared.ids.NetId.{NetId}
use Rattle.dft_abstract.specs.Cycle.{Pulse}
use Rattle.dft_cycle.specs.Machine.{Machine, logic, value_at, pulses, IsPhase}
use Rattle.dft_logic.specs.Circuit.{flag_at}
use Rattle.dft_cycle.specs.Views.{Among}
use Rattle.dft_registers.specs.Layout.{Layout}
use Rattle.dft_registers.specs.declared.moves.Move.{Move}
use Rattle.dft_registers.specs.Cells.{CanMove}
use Rattle.dft_takings.specs.declared.takings.Taking.{Taking}
use Rattle.dft_takings.specs.Takings.{taking_at}
use Rattle.dft_cycle.specs.Plans.{ArePlans, IsFound, IsPassed}
use Rattle.dft_cycle.specs.MachineShown.{machine_of}
use Rattle.dft_cycle.proofs.MachineLemmas.{clear_kept, passed_loose, pulses_among, flags_one, phase_passed, plan_found, put_passed}
use Rattle.dft_cycle.proofs.machine.AbstractMachine.phase.Goals as goal

pub mark-requires-clause-live : goal.mark-requires-clause-live
mark-requires-clause-live c = λ place clock at.
    (let S : List NetId → Type 0 = λ l. slice_get l place ≡ Some clock in
    let less = c.self.invariant.live place clock (subst S c.deref.ensures.value at) in
    omega (arith, ap length c.deref_mut.ensures.value, less))

pub find-found-requires-clause-among : goal.find-found-requires-clause-among
find-found-requires-clause-among c = λ e up.
    (let d = c.self.inside in
    let clocks : c.deref.result.now ≡ d.clocks.items = c.deref.ensures.value in
    let named : c.deref-4.result.now ≡ d.clocks.items = c.deref-4.ensures.value in
    let flags : c.deref_mut.result.now ≡ d.pulsed.items = c.deref_mut.ensures.value in
    let read : c.deref-3.result.now ≡ (with_items d.pulsed c.mark.new.flags).items = c.deref-3.ensures.value in
    let marked : c.deref-3.result.now ≡ c.mark.new.flags = read ∙ refilled_items d.pulsed c.mark.new.flags c.deref_mut.result.now c.mark.auto.flags flags in
    let Q : List NetId → Type 0 = λ l. Among l (length l) e in
    subst Q (sym named) (pulses_among d.clocks.items c.args.pulsed.now e
    (sym (ap (λ (l : List NetId). pulses l c.args.pulsed.now e) clocks) ∙ sym (c.mark.ensures e) ∙ sym (ap (λ (l : List Bool). flag_at l e) marked) ∙ up)))

pub put_all-requires-clause-live : goal.put_all-requires-clause-live
put_all-requires-clause-live c = λ j less.
    (let i = c.self.invariant in
    let d = c.self.inside in
    let p : Pulse = record { rising = c.args.rising; ports = value_at c.deref-2.result.now; pulsed = flag_at c.deref-3.result.now; old = value_at d.cells.values } in
    let found : IsFound d.circuit p d.cells c.index-plan.result.now c.find-found.new.row =
    plan_found d.circuit p d.cells c.find-found.new.self.plans.items c.in-Some.place c.index-plan.result.now c.index-plan.result.now c.find-found.new.row c.in-Some.ensures.live c.index-plan.ensures c.in-Some.ensures.found in
    let T : List Taking → Type 0 = λ l. (j : ℕ) → j < length l → (taking_at l j).place < length d.circuit.flops in
    let was = subst T (sym c.deref-in-Some.ensures.value) found.live j less in
    omega (arith, i.cells, was))

pub put_all-requires-clause-row : goal.put_all-requires-clause-row
put_all-requires-clause-row c =
    let i = c.self.invariant in
    let d = c.self.inside in
    let p : Pulse = record { rising = c.args.rising; ports = value_at c.deref-2.result.now; pulsed = flag_at c.deref-3.result.now; old = value_at d.cells.values } in
    let found : IsFound d.circuit p d.cells c.index-plan.result.now c.find-found.new.row =
    plan_found d.circuit p d.cells c.find-found.new.self.plans.items c.in-Some.place c.index-plan.result.now c.index-plan.result.now c.find-found.new.row c.in-Some.ensures.live c.index-plan.ensures c.in-Some.ensures.found in
    omega (arith, ap length c.deref-in-Some.ensures.value, ap length c.deref-in-Some-2.ensures.value, refilled_length d.room.search.next c.find-found.new.row, i.room.search.next, found.few)

pub put_all-requires-clause-can : goal.put_all-requires-clause-can
put_all-requires-clause-can c =
    let d = c.self.inside in
    let p : Pulse = record { rising = c.args.rising; ports = value_at c.deref-2.result.now; pulsed = flag_at c.deref-3.result.now; old = value_at d.cells.values } in
    let found : IsFound d.circuit p d.cells c.index-plan.result.now c.find-found.new.row =
    plan_found d.circuit p d.cells c.find-found.new.self.plans.items c.in-Some.place c.index-plan.result.now c.index-plan.result.now c.find-found.new.row c.in-Some.ensures.live c.index-plan.ensures c.in-Some.ensures.found in
    subst (λ (l : List Move). CanMove d.cells.layout l) (sym c.deref-in-Some-3.ensures.value) found.can

pub invariant_of-self : goal.invariant_of-self
unfolding logic
invariant_of-self c =
    let i = c.self.invariant in
    let d = c.self.inside in
    let p : Pulse = record { rising = c.args.rising; ports = value_at c.deref-2.result.now; pulsed = flag_at c.deref-3.result.now; old = value_at d.cells.values } in
    let found : IsFound d.circuit p d.cells c.index-plan.result.now c.find-found.new.row =
    plan_found d.circuit p d.cells c.find-found.new.self.plans.items c.in-Some.place c.index-plan.result.now c.index-plan.result.now c.find-found.new.row c.in-Some.ensures.live c.index-plan.ensures c.in-Some.ensures.found in
    let row : c.deref-in-Some-2.result.now ≡ c.find-found.new.row =
    c.deref-in-Some-2.ensures.value ∙ refilled_items d.room.search.next c.find-found.new.row c.deref_mut-4.result.now c.find-found.auto.row c.deref_mut-4.ensures.value in
    let passed : IsPassed d.circuit p c.put_all.new.cells.values =
    put_passed d.circuit p d.cells c.index-plan.result.now c.find-found.new.row c.deref-in-Some-2.result.now c.put_all.new.cells.values c.deref-in-Some.result.now c.deref-in-Some-3.result.now found
    c.deref-in-Some.ensures.value row c.deref-in-Some-3.ensures.value c.put_all.ensures.put in
    record {
      compiled = i.compiled;
      falling = i.falling;
      owned = i.owned;
      live = λ place clock at. (let less = i.live place clock at in let e = refilled_length d.pulsed c.mark.new.flags in omega arith);
      nets = i.nets;
      pulsed = refilled_length d.pulsed c.mark.new.flags ∙ i.pulsed;
      inputs = i.inputs;
      shown = i.shown;
      room = record {
        values = i.room.values;
        search = record { poss = i.room.search.poss; held = i.room.search.held; next = refilled_length d.room.search.next c.find-found.new.row ∙ i.room.search.next };
        marked = refilled_length d.room.marked c.find-found.new.marked ∙ i.room.marked;
        clear = clear_kept d.room.marked c.find-found.new.marked c.deref_mut-3.result.now c.find-found.auto.marked c.deref_mut-3.ensures.value c.find-found.ensures.clear;
        ready = i.room.ready;
        quick = refilled_length d.room.quick c.find-found.new.values ∙ i.room.quick;
      };
      cells = c.put_all.ensures.count ∙ i.cells;
      plans = subst (λ (l : Layout). ArePlans d.circuit d.clocks.items l c.find-found.new.self) (sym c.put_all.ensures.layout)
          (subst (λ (l : List NetId). ArePlans d.circuit l d.cells.layout c.find-found.new.self) c.deref-4.ensures.value c.find-found.ensures.plans);
      looks = i.looks;
      loose = passed_loose d.circuit p d.cells.values c.put_all.new.cells.values true (c.put_all.ensures.count ∙ i.cells) (λ k. refl) i.loose (λ yes. passed) (λ no. absurd cc);
      flags = flags_one d.clocks.items c.args.pulsed.now d.pulsed c.mark.new.flags c.deref.result.now c.deref_mut.result.now c.mark.auto.flags c.deref_mut.ensures.value c.deref.ensures.value c.mark.ensures;
    }

pub invariant_of-self-in-None : goal.invariant_of-self-in-None
unfolding logic
invariant_of-self-in-None c =
    let i = c.self.invariant in
    let d = c.self.inside in
    record {
      compiled = i.compiled;
      falling = i.falling;
      owned = i.owned;
      live = λ place clock at. (let less = i.live place clock at in let e = refilled_length d.pulsed c.mark.new.flags in omega arith);
      nets = i.nets;
      pulsed = refilled_length d.pulsed c.mark.new.flags ∙ i.pulsed;
      inputs = i.inputs;
      shown = i.shown;
      room = record {
        values = i.room.values;
        search = record { poss = i.room.search.poss; held = i.room.search.held; next = refilled_length d.room.search.next c.find-found.new.row ∙ i.room.search.next };
        marked = refilled_length d.room.marked c.find-found.new.marked ∙ i.room.marked;
        clear = clear_kept d.room.marked c.find-found.new.marked c.deref_mut-3.result.now c.find-found.auto.marked c.deref_mut-3.ensures.value c.find-found.ensures.clear;
        ready = i.room.ready;
        quick = refilled_length d.room.quick c.find-found.new.values ∙ i.room.quick;
      };
      cells = i.cells;
      plans = subst (λ (l : List NetId). ArePlans d.circuit l d.cells.layout c.find-found.new.self) c.deref-4.ensures.value c.find-found.ensures.plans;
      looks = i.looks;
      loose = i.loose;
      flags = flags_one d.clocks.items c.args.pulsed.now d.pulsed c.mark.new.flags c.deref.result.now c.deref_mut.result.now c.mark.auto.flags c.deref_mut.ensures.value c.deref.ensures.value c.mark.ensures;
    }

pub returns-in-Some : goal.returns-in-Some
returns-in-Some c =
    let i = c.self.invariant in
    let d = c.self.inside in
    let p : Pulse = record { rising = c.args.rising; ports = value_at c.deref-2.result.now; pulsed = flag_at c.deref-3.result.now; old = value_at d.cells.values } in
    let found : IsFound d.circuit p d.cells c.index-plan.result.now c.find-found.new.row =
    plan_found d.circuit p d.cells c.find-found.new.self.plans.items c.in-Some.place c.index-plan.result.now c.index-plan.result.now c.find-found.new.row c.in-Some.ensures.live c.index-plan.ensures c.in-Some.ensures.found in
    let row : c.deref-in-Some-2.result.now ≡ c.find-found.new.row =
    c.deref-in-Some-2.ensures.value ∙ refilled_items d.room.search.next c.find-found.new.row c.deref_mut-4.result.now c.find-found.auto.row c.deref_mut-4.ensures.value in
    let passed : IsPassed d.circuit p c.put_all.new.cells.values =
    put_passed d.circuit p d.cells c.index-plan.result.now c.find-found.new.row c.deref-in-Some-2.result.now c.put_all.new.cells.values c.deref-in-Some.result.now c.deref-in-Some-3.result.now found
    c.deref-in-Some.ensures.value row c.deref-in-Some-3.ensures.value c.put_all.ensures.put in
    let after : Machine = record { netlist = d.design.now; clocks = d.clocks.items; inputs = d.inputs.items; cells = c.put_all.new.cells.values; shown = d.shown.items } in
    let P : Machine → Type 0 = λ m. IsPhase (logic m) m c.args.rising c.args.pulsed.now after in
    let clocks : c.deref.result.now ≡ d.clocks.items = c.deref.ensures.value in
    let flags : c.deref_mut.result.now ≡ d.pulsed.items = c.deref_mut.ensures.value in
    let read : c.deref-3.result.now ≡ (with_items d.pulsed c.mark.new.flags).items = c.deref-3.ensures.value in
    let marked : c.deref-3.result.now ≡ c.mark.new.flags = read ∙ refilled_items d.pulsed c.mark.new.flags c.deref_mut.result.now c.mark.auto.flags flags in
    let ports : c.deref-2.result.now ≡ d.inputs.items = c.deref-2.ensures.value in
    subst P c.self.view_is
    (phase_passed (machine_of d) after d.circuit c.args.rising c.args.pulsed.now p c.put_all.new.cells.values i.compiled refl refl refl refl refl refl
    (λ k. ap (λ (l : List Tri). value_at l k) ports)
    (λ e. ap (λ (l : List Bool). flag_at l e) marked ∙ c.mark.ensures e ∙ ap (λ (l : List NetId). pulses l c.args.pulsed.now e) clocks)
    (λ k. refl)
    i.cells c.put_all.ensures.count passed)
