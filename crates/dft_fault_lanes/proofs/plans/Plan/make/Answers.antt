-- What is shown, moved, marked and listed is of these clocks.
use Rattle.std.proofs.Common.{ℕ, Bool, true, false, List, [], ◌≤◌, ◌≡◌, ◌∙◌, ap, sym, subst, length, take}
use Rattle.std.specs.Vec.{with_items}
use Rattle.dft_base.proofs.ListLemmas.{refilled_length, refilled_items}
use Rattle.dft_netlist.specs.declared.ids.NetId.{NetId}
use Rattle.dft_netlist.specs.Orders.{Has, numbers_of}
use Rattle.dft_registers.specs.Layout.{Layout}
use Rattle.dft_replay.specs.Vectors.{AreSignals}
use Rattle.dft_takings.specs.declared.shown.Shown.{Shown}
use Rattle.dft_logic.specs.Circuit.{Circuit, logic_at, flag_at, AreOrdered}
use Rattle.dft_takings.specs.Needs.{HasAll, IsStrobeClosed}
use Rattle.dft_takings.specs.Shows.{IsShownOn}
use Rattle.dft_takings.specs.ShownTables.{shown_at, edges_of}
use Rattle.dft_fault_laws.specs.Rounds.{every}
use Rattle.dft_fault_lanes.specs.Lanes.{flop_at}
use Rattle.dft_fault_lanes.specs.Plans.{needs_of, HasReadsOf, AreCovered, pulse_on}
use Rattle.dft_fault_lanes.specs.Moves.{is_carried, AreMoves, enable_needs}
use Rattle.dft_fault_lanes.proofs.PlanLemmas.{pulse_on_acts, steady_reads}
use Rattle.dft_fault_lanes.proofs.plans.Plan.make.Goals as goal

pub read_pulses-requires : goal.read_pulses-requires
read_pulses-requires c = ap length c.deref_mut-2.ensures.value ∙ c.requires.room.pulses ∙ sym c.requires.acts

pub flag_pulses-requires-clause-nets : goal.flag_pulses-requires-clause-nets
flag_pulses-requires-clause-nets c = subst (λ (n : ℕ). AreSignals n c.args.nets.now) (sym (ap length c.deref_mut-3.ensures.value ∙ c.requires.room.pulsed)) c.requires.nets

pub show_all-requires : goal.show_all-requires
show_all-requires c = record { shown = ap length c.deref_mut-4.ensures.value ∙ c.requires.room.rises }

pub show_all-requires-2 : goal.show_all-requires-2
show_all-requires-2 c = record { shown = ap length c.deref_mut-5.ensures.value ∙ c.requires.room.falls }

pub list_needs-self-requires-clause-marked : goal.list_needs-self-requires-clause-marked
list_needs-self-requires-clause-marked c = ap length c.deref_mut-7.ensures.value ∙ refilled_length c.args.self.now.marked c.lower_unless.new.marked ∙ c.requires.room.marked

pub list_needs-self-requires-clause-list : goal.list_needs-self-requires-clause-list
list_needs-self-requires-clause-list c = ap length c.deref_mut-8.ensures.value ∙ c.requires.room.list

pub list_places-requires-clause-cells : goal.list_places-requires-clause-cells
list_places-requires-clause-cells c = rw (c.deref-5.ensures.value, ap (λ (m : Circuit). m.flops) c.circuit.view_is) c.requires.cells

pub list_places-requires-clause-room : goal.list_places-requires-clause-room
list_places-requires-clause-room c = rw (c.deref-5.ensures.value, ap (λ (m : Circuit). m.flops) c.circuit.view_is) c.requires.room.taking

pub list_places-requires-2-clause-cells : goal.list_places-requires-2-clause-cells
list_places-requires-2-clause-cells c = rw (c.deref-8.ensures.value, ap (λ (m : Circuit). m.flops) c.circuit.view_is) c.requires.cells

pub list_places-requires-2-clause-room : goal.list_places-requires-2-clause-room
list_places-requires-2-clause-room c = rw (c.deref-8.ensures.value, ap (λ (m : Circuit). m.flops) c.circuit.view_is) c.requires.room.falling

pub returns-clause-room : goal.returns-clause-room
returns-clause-room c =
    let old = c.args.self.now in
    record {
      pulses = refilled_length old.pulses c.read_pulses.new.row ∙ c.requires.room.pulses;
      pulsed = refilled_length old.pulsed c.flag_pulses.new.pulsed ∙ c.requires.room.pulsed;
      rises = refilled_length old.rises c.show_all.new.shown ∙ c.requires.room.rises;
      falls = refilled_length old.falls c.show_all-2.new.shown ∙ c.requires.room.falls;
      marked = refilled_length (with_items old.marked c.lower_unless.new.marked) c.list_needs-self.new.marked ∙ refilled_length old.marked c.lower_unless.new.marked ∙ c.requires.room.marked;
      list = refilled_length old.list c.list_needs-self.new.list ∙ c.requires.room.list;
      taking = rw c.list_places.ensures.room c.requires.room.taking;
      falling = rw c.list_places-2.ensures.room c.requires.room.falling;
      forces = c.requires.room.forces;
    }

pub returns-clause-pulses : goal.returns-clause-pulses
returns-clause-pulses c = refilled_items c.args.self.now.pulses c.read_pulses.new.row c.deref_mut-2.result.now c.read_pulses.auto.row c.deref_mut-2.ensures.value ∙ c.read_pulses.ensures

pub returns-clause-covered : goal.returns-clause-covered
returns-clause-covered c =
    let marked = refilled_items (with_items c.args.self.now.marked c.lower_unless.new.marked) c.list_needs-self.new.marked c.deref_mut-7.result.now c.list_needs-self.auto.marked c.deref_mut-7.ensures.value in
    subst (AreCovered c.args.nets.now c.args.acts.now) (sym marked) c.list_needs-self.ensures.covered

pub returns-clause-plan : goal.returns-clause-plan
returns-clause-plan c =
    let x = c.args.circuit.now in
    let count : ℕ = length x.ops in
    let l : Layout = c.args.cells.now.layout in
    let old = c.args.self.now in
    let signals : List ℕ = numbers_of c.args.nets.now in
    let acts = c.args.acts.now in
    let steer = record old.steer { value = c.args.value; free = c.args.free } in
    let p = with_items old.pulsed c.flag_pulses.new.pulsed in
    let m = with_items (with_items old.marked c.lower_unless.new.marked) c.list_needs-self.new.marked in
    let moving = with_items old.moves c.find_moves.new.moves in
    let pulses = refilled_items old.pulses c.read_pulses.new.row c.deref_mut-2.result.now c.read_pulses.auto.row c.deref_mut-2.ensures.value ∙ c.read_pulses.ensures in
    let pulsed = refilled_items old.pulsed c.flag_pulses.new.pulsed c.deref_mut-3.result.now c.flag_pulses.auto.pulsed c.deref_mut-3.ensures.value in
    let rises = refilled_items old.rises c.show_all.new.shown c.deref_mut-4.result.now c.show_all.auto.shown c.deref_mut-4.ensures.value in
    let falls = refilled_items old.falls c.show_all-2.new.shown c.deref_mut-5.result.now c.show_all-2.auto.shown c.deref_mut-5.ensures.value in
    let moves = refilled_items old.moves c.find_moves.new.moves c.deref_mut-6.result.now c.find_moves.auto.moves c.deref_mut-6.ensures.value in
    let marked = refilled_items (with_items old.marked c.lower_unless.new.marked) c.list_needs-self.new.marked c.deref_mut-7.result.now c.list_needs-self.auto.marked c.deref_mut-7.ensures.value in
    let list = refilled_items old.list c.list_needs-self.new.list c.deref_mut-8.result.now c.list_needs-self.auto.list c.deref_mut-8.ensures.value in
    let front : List NetId → Type 0 = λ l. AreOrdered x.ops [] (numbers_of (take c.list_needs-self.result l)) in
    let reads = rw c.deref-4.ensures.value at c.list_needs-self.ensures.reads in
    record {
      pulsing = λ net. ap (λ (l : List Bool). flag_at l net) pulsed ∙ c.flag_pulses.ensures net ∙ sym (pulse_on_acts signals acts net) ∙ ap (λ (l : List Bool). pulse_on signals l net) (sym pulses);
      rises = subst (λ (l : List Shown). IsShownOn (logic_at x) (edges_of true (flag_at p.items)) every (shown_at l)) (sym rises) (rw c.deref.ensures.value at c.show_all.ensures);
      falls = subst (λ (l : List Shown). IsShownOn (logic_at x) (edges_of false (flag_at p.items)) every (shown_at l)) (sym falls) (rw c.deref-2.ensures.value at c.show_all-2.ensures);
      closed = subst (λ (l : List Bool). IsStrobeClosed (logic_at x) (flag_at l)) (sym marked) c.list_needs-self.ensures.closed;
      ordered = subst front (sym list) c.list_needs-self.ensures.ordered;
      listed = subst (λ (l : List NetId). (k : ℕ) → flag_at m.items k ≡ true → Has (numbers_of (take c.list_needs-self.result l)) k) (sym list)
          (subst (λ (l : List Bool). (k : ℕ) → flag_at l k ≡ true → Has (numbers_of (take c.list_needs-self.result c.list_needs-self.new.list)) k) (sym marked) c.list_needs-self.ensures.listed);
      room = subst (λ (l : List NetId). c.list_needs-self.result ≤ length l) (sym list) c.list_needs-self.ensures.room;
      steered = subst (λ (l : List Bool). needs_of count l steer.net.0 ≡ true) (sym marked) c.list_needs-self.ensures.steered;
      enables = subst (λ (l : List Bool). (k : ℕ) → HasAll (needs_of count l) (enable_needs (flop_at x.flops k))) (sym marked) c.list_needs-self.ensures.enables;
      reads = subst (λ (b : List Bool). (k : ℕ) → is_carried l moving.items k ≡ false → HasReadsOf (needs_of count b) steer (flop_at x.flops k)) (sym marked) reads;
      rests = ap (λ (l : List Bool). flag_at l 0) moves ∙ c.find_moves.ensures.rests;
      moving = subst (λ (b : List Bool). AreMoves x.ops c.args.clamps.now x.flops steer p.items l b) (sym moves) (rw c.deref-3.ensures.value at c.find_moves.ensures.moving);
      taking = rw (c.deref-5.ensures.value, ap (λ (m : Circuit). m.flops) c.circuit.view_is, c.deref-6.ensures.value, c.deref-7.ensures.value) at c.list_places.ensures.places;
      falling = rw (c.deref-8.ensures.value, ap (λ (m : Circuit). m.flops) c.circuit.view_is, c.deref-9.ensures.value) at c.list_places-2.ensures.places;
      steady = λ up. steady_reads x.flops steer p.items (with_items old.rises c.show_all.new.shown).items ((rw (c.deref-10.ensures.value, ap (λ (m : Circuit). m.flops) c.circuit.view_is, c.deref-11.ensures.value, c.deref-12.ensures.value) at c.are_steady-self.ensures) up);
    }
