-- What is set, settled, taken and compared makes a step of each lane.
use Rattle.std.proofs.Common.{List, Bool, ◌∙◌, ap, sym, subst, length}
use Rattle.dft_netlist.specs.Orders.{numbers_of}
use Rattle.dft_logic.specs.Circuit.{Circuit}
use Rattle.dft_logic.specs.Values.{value_at}
use Rattle.dft_replay.specs.Rows.{row_of}
use Rattle.dft_registers.specs.Layout.{Layout}
use Rattle.dft_fault_lanes.specs.Plans.{needs_of, pulse_on}
use Rattle.dft_fault_lanes.specs.Made.{IsPlan}
use Rattle.dft_fault_lanes.proofs.GroupLemmas.{lanes_step}
use Rattle.dft_fault_lanes.proofs.IdleLemmas.{idle_acted}
use Rattle.dft_fault_lanes.proofs.PlanLemmas.{none_acts, pulse_on_acts, covered_decides}
use Rattle.dft_fault_lanes.proofs.grouping.play.Goals as goal

pub act-requires-clause-free : goal.act-requires-clause-free
act-requires-clause-free c = λ up. rw (c.deref-2.ensures.value, ap (λ (m : Circuit). m.flops) c.circuit.view_is)
    (none_acts c.args.group.circuit.now.flops c.set_inputs.new.ports c.args.plan.now.forces.items c.requires.room.forces ((rw c.deref.ensures.value at c.are_ones-free.ensures) up))

pub act-requires-clause-count : goal.act-requires-clause-count
act-requires-clause-count c = rw (c.deref-2.ensures.value, ap (λ (m : Circuit). m.flops) c.circuit.view_is) c.requires.cells

pub strobe-requires-clause-plan : goal.strobe-requires-clause-plan
strobe-requires-clause-plan c = λ made. (let P : Layout → Type 0 = λ l. IsPlan c.args.group.circuit.now c.args.group.clamps.now l c.args.group.nets.now c.args.plan.now in subst P (sym c.act.ensures.layout) (c.requires.plan made))

pub strobe-requires-clause-count : goal.strobe-requires-clause-count
strobe-requires-clause-count c = c.act.ensures.count ∙ c.requires.cells

pub pulse-requires-clause-strobe : goal.pulse-requires-clause-strobe
pulse-requires-clause-strobe c = c.strobe.auto.wides ∙ c.requires.wides

pub pulse-requires-clause-count : goal.pulse-requires-clause-count
pulse-requires-clause-count c = c.act.ensures.count ∙ c.requires.cells

pub pulse-requires-clause-free : goal.pulse-requires-clause-free
pulse-requires-clause-free c = λ up.
    none_acts c.args.group.circuit.now.flops c.set_inputs.new.ports c.args.plan.now.forces.items c.requires.room.forces ((rw c.deref.ensures.value at c.are_ones-free.ensures) (sym c.strobe.ensures.free ∙ up))

pub pulse-requires-clause-idle : goal.pulse-requires-clause-idle
pulse-requires-clause-idle c = idle_acted c.args.group.circuit.now.flops c.set_inputs.new.ports c.args.cells.now.values c.act.new.cells.values (rw (c.deref-2.ensures.value, ap (λ (m : Circuit). m.flops) c.circuit.view_is) at c.act.ensures.acted) c.requires.idle

pub returns-clause-idle : goal.returns-clause-idle
returns-clause-idle c = c.pulse.ensures.idle c.strobe.ensures.settled

pub returns-clause-plan : goal.returns-clause-plan
returns-clause-plan c = let P : Layout → Type 0 = λ l. IsPlan c.args.group.circuit.now c.args.group.clamps.now l c.args.group.nets.now c.strobe.new.plan in subst P (sym c.pulse.ensures.layout) c.strobe.ensures.plan

pub returns-clause-cells : goal.returns-clause-cells
returns-clause-cells c = c.pulse.ensures.count ∙ c.act.ensures.count

pub pulse-requires-clause-plan : goal.pulse-requires-clause-plan
pulse-requires-clause-plan c = (c.args.group.nets.now, c.strobe.ensures.plan)

pub returns-clause-steps : goal.returns-clause-steps
returns-clause-steps c =
    let x = c.args.group.circuit.now in
    let p = c.strobe.new.plan in
    let nets = numbers_of c.args.group.nets.now in
    let acts = c.args.acts.now in
    lanes_step x (needs_of (length x.ops) p.marked.items) c.args.group.clamps.now (row_of nets (value_at c.args.ports.now) acts) c.args.vector c.set_inputs.new.ports p.pulsed.items
    c.args.cells.now.values c.act.new.cells.values c.strobe.new.wides c.pulse.new.cells.values c.args.live.now c.pulse.new.live c.compare.new.live c.args.found.now c.compare.new.found c.set_inputs.ensures
    (λ net. c.strobe.ensures.plan.pulsing net ∙ ap (λ (ps : List Bool). pulse_on nets ps net) c.strobe.ensures.pulses ∙ pulse_on_acts nets acts net)
    (λ values all same. covered_decides c.args.group.nets.now acts (length x.ops) p.marked.items c.args.vector 0 values all c.strobe.ensures.covered same)
    (record { acted = rw (c.deref-2.ensures.value, ap (λ (m : Circuit). m.flops) c.circuit.view_is) at c.act.ensures.acted; settled = c.strobe.ensures.settled }) c.pulse.ensures.pulsed c.compare.ensures.compared
