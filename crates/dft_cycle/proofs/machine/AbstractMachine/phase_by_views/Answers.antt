-- The flip-flops of the pulsed domains have their next values at the least map.
use Rattle.std.proofs.Common.{Bool, Some, slice_get, ◌≡◌, ◌∙◌, refl, ap, sym, subst, length, List, arith}
use Rattle.std.specs.Vec.{with_items}
use Rattle.dft_base.specs.declared.tri.Tri.{Tri}
use Rattle.dft_base.proofs.ListLemmas.{refilled_length, refilled_items}
use Rattle.dft_netlist.specs.declared.ids.NetId.{NetId}
use Rattle.dft_abstract.specs.Cycle.{Pulse}
use Rattle.dft_cycle.specs.Machine.{Machine, logic, value_at, pulses, IsPhase}
use Rattle.dft_logic.specs.Circuit.{Circuit, IsCircuit, flag_at, logic_at}
use Rattle.dft_cycle.specs.Views.{Among}
use Rattle.dft_cycle.specs.MachineShown.{machine_of}
use Rattle.dft_cycle.proofs.MachineLemmas.{clear_kept, ready_kept, pulsed_loose, phase_done, taken_read, pulses_among, flags_one}
use Rattle.dft_registers.specs.Layout.{Layout}
use Rattle.dft_cycle.specs.Plans.{ArePlans}
use Rattle.dft_cycle.proofs.machine.AbstractMachine.phase_by_views.Goals as goal

pub mark-requires-clause-live : goal.mark-requires-clause-live
mark-requires-clause-live c = λ place clock at.
    (let S : List NetId → Type 0 = λ l. slice_get l place ≡ Some clock in
    let less = c.self.invariant.live place clock (subst S c.deref.ensures.value at) in
    omega (arith, ap length c.deref_mut.ensures.value, less))

pub find_least-requires-clause-owned : goal.find_least-requires-clause-owned
find_least-requires-clause-owned c = λ k e high source at.
    (let Q : List NetId → Type 0 = λ l. Among l (length l) e in
    subst Q (sym c.deref-4.ensures.value) (c.self.invariant.owned k e high source at))

pub find_least-requires-clause-live : goal.find_least-requires-clause-live
find_least-requires-clause-live c = λ place net at.
    (let S : List NetId → Type 0 = λ l. slice_get l place ≡ Some net in
    let less = c.self.invariant.live place net (subst S c.deref-4.ensures.value at) in
    omega (arith, c.self.invariant.pulsed, less))

pub find_least-requires-clause-pulsing : goal.find_least-requires-clause-pulsing
find_least-requires-clause-pulsing c = λ e up.
    (let d = c.self.inside in
    let clocks : c.deref.result.now ≡ d.clocks.items = c.deref.ensures.value in
    let named : c.deref-4.result.now ≡ d.clocks.items = c.deref-4.ensures.value in
    let flags : c.deref_mut.result.now ≡ d.pulsed.items = c.deref_mut.ensures.value in
    let read : c.deref-3.result.now ≡ (with_items d.pulsed c.mark.new.flags).items = c.deref-3.ensures.value in
    let marked : c.deref-3.result.now ≡ c.mark.new.flags = read ∙ refilled_items d.pulsed c.mark.new.flags c.deref_mut.result.now c.mark.auto.flags flags in
    let Q : List NetId → Type 0 = λ l. Among l (length l) e in
    subst Q (sym named) (pulses_among d.clocks.items c.args.pulsed.now e
    (sym (ap (λ (l : List NetId). pulses l c.args.pulsed.now e) clocks) ∙ sym (c.mark.ensures e) ∙ sym (ap (λ (l : List Bool). flag_at l e) marked) ∙ up)))

pub invariant_of-self : goal.invariant_of-self
unfolding logic logic_at
invariant_of-self c =
    let i = c.self.invariant in
    let d = c.self.inside in
    let cells = c.take.new.cells in
    let p : Pulse = record { rising = c.args.rising; ports = value_at c.deref-2.result.now; pulsed = flag_at c.deref-3.result.now; old = value_at d.cells.values } in
    record {
      compiled = i.compiled;
      falling = i.falling;
      owned = i.owned;
      live = λ place clock at. (let less = i.live place clock at in let e = refilled_length d.pulsed c.mark.new.flags in omega arith);
      nets = i.nets;
      pulsed = refilled_length d.pulsed c.mark.new.flags ∙ i.pulsed;
      inputs = i.inputs;
      shown = i.shown;
      room = record {
        values = refilled_length d.room.values c.find_least.new.values ∙ i.room.values;
        search = c.find_least.ensures.search;
        marked = refilled_length d.room.marked c.find_least.new.marked ∙ i.room.marked;
        clear = clear_kept d.room.marked c.find_least.new.marked c.deref_mut-4.result.now c.find_least.auto.marked c.deref_mut-4.ensures.value c.find_least.ensures.clear;
        ready = ready_kept d.circuit d.room.values c.find_least.new.values c.deref_mut-3.result.now c.find_least.auto.values c.deref_mut-3.ensures.value c.find_least.ensures.ready;
        quick = i.room.quick;
      };
      cells = c.take.ensures.count ∙ i.cells;
      plans = subst (λ (l : Layout). ArePlans d.circuit d.clocks.items l d.plans) (sym c.take.ensures.layout) i.plans;
      looks = i.looks;
      loose = pulsed_loose d.circuit p c.find_least.new.search.poss.items c.find_least.new.search.next.items d.cells.values cells.values (subst IsCircuit c.circuit.view_is c.circuit.invariant) (c.take.ensures.count ∙ i.cells) i.loose c.find_least.ensures.next
          (taken_read c.args.rising d.circuit.flops c.deref-5.result.now c.deref-3.result.now c.deref-6.result.now c.find_least.new.search.next.items c.deref-7.result.now d.cells.values d.cells.values cells.values cells.values
          (c.deref-5.ensures.value ∙ ap (λ (m : Circuit). m.flops) c.circuit.view_is) (c.deref-6.ensures.value ∙ sym c.deref-3.ensures.value) c.deref-7.ensures.value refl refl c.take.ensures.each);
      flags = flags_one d.clocks.items c.args.pulsed.now d.pulsed c.mark.new.flags c.deref.result.now c.deref_mut.result.now c.mark.auto.flags c.deref_mut.ensures.value c.deref.ensures.value c.mark.ensures;
    }

pub returns : goal.returns
unfolding logic_at
returns c =
    let i = c.self.invariant in
    let d = c.self.inside in
    let cells = c.take.new.cells in
    let after : Machine = record { netlist = d.design.now; clocks = d.clocks.items; inputs = d.inputs.items; cells = cells.values; shown = d.shown.items } in
    let P : Machine → Type 0 = λ m. IsPhase (logic m) m c.args.rising c.args.pulsed.now after in
    let clocks : c.deref.result.now ≡ d.clocks.items = c.deref.ensures.value in
    let flags : c.deref_mut.result.now ≡ d.pulsed.items = c.deref_mut.ensures.value in
    let read : c.deref-3.result.now ≡ (with_items d.pulsed c.mark.new.flags).items = c.deref-3.ensures.value in
    let again : c.deref-6.result.now ≡ (with_items d.pulsed c.mark.new.flags).items = c.deref-6.ensures.value in
    let marked : c.deref-3.result.now ≡ c.mark.new.flags = read ∙ refilled_items d.pulsed c.mark.new.flags c.deref_mut.result.now c.mark.auto.flags flags in
    let ports : c.deref-2.result.now ≡ d.inputs.items = c.deref-2.ensures.value in
    let size = c.find_least.ensures.search.next in
    let flops : c.deref-5.result.now ≡ d.circuit.flops = c.deref-5.ensures.value ∙ ap (λ (m : Circuit). m.flops) c.circuit.view_is in
    let p : Pulse = record { rising = c.args.rising; ports = value_at c.deref-2.result.now; pulsed = flag_at c.deref-3.result.now; old = value_at d.cells.values } in
    subst P c.self.view_is
    (phase_done (machine_of d) after d.circuit c.args.rising c.args.pulsed.now p c.find_least.new.search.poss.items c.find_least.new.search.next.items (subst IsCircuit c.circuit.view_is c.circuit.invariant) i.compiled refl refl refl refl refl
    (λ k. ap (λ (l : List Tri). value_at l k) ports)
    (λ e. ap (λ (l : List Bool). flag_at l e) marked ∙ c.mark.ensures e ∙ ap (λ (l : List NetId). pulses l c.args.pulsed.now e) clocks)
    (λ k. refl)
    i.cells c.take.ensures.count size c.find_least.ensures.least c.find_least.ensures.next
    (taken_read c.args.rising d.circuit.flops c.deref-5.result.now c.deref-3.result.now c.deref-6.result.now c.find_least.new.search.next.items c.deref-7.result.now d.cells.values d.cells.values cells.values cells.values
    flops (again ∙ sym read) c.deref-7.ensures.value refl refl c.take.ensures.each))
