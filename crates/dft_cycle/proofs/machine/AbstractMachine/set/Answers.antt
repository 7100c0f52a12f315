-- The input has its value, and it acted on the flip-flops.
use Rattle.std.proofs.Common.{◌<◌, ◌∙◌, refl, sym, subst, length, arith}
use Rattle.std.proofs.Math.ListN.{length-set}
use Rattle.std.specs.Vec.{with_item}
use Rattle.dft_cycle.specs.Machine.{Machine, logic, IsSet}
use Rattle.dft_cycle.specs.MachineShown.{machine_of}
use Rattle.dft_cycle.proofs.MachineLemmas.{set_done, set_loose}
use Rattle.dft_registers.specs.Layout.{Layout}
use Rattle.dft_cycle.specs.Plans.{ArePlans}
use Rattle.dft_cycle.proofs.machine.AbstractMachine.set.Goals as goal

pub invariant_of-self : goal.invariant_of-self
unfolding logic
invariant_of-self c =
    let i = c.self.invariant in
    let d = c.self.inside in
    let cells = c.act.new.cells in
    record {
      compiled = i.compiled;
      falling = i.falling;
      owned = i.owned;
      live = i.live;
      nets = i.nets;
      pulsed = i.pulsed;
      inputs = length-set c.self.inside.inputs.items c.args.net.0 c.args.value ∙ i.inputs;
      shown = i.shown;
      room = i.room;
      cells = c.act.ensures.count ∙ i.cells;
      plans = subst (λ (l : Layout). ArePlans d.circuit d.clocks.items l d.plans) (sym c.act.ensures.layout) i.plans;
      looks = i.looks;
      loose = set_loose d.circuit c.args.net.0 c.args.value d.cells.values cells.values (c.act.ensures.count ∙ i.cells) i.loose c.act.ensures.each;
      flags = i.flags;
    }

pub returns : goal.returns
returns c =
    let d = c.self.inside in
    let i = c.self.invariant in
    let inputs = with_item d.inputs c.args.net.0 c.args.value in
    let cells = c.act.new.cells in
    let after : Machine = record { netlist = d.design.now; clocks = d.clocks.items; inputs = inputs.items; cells = cells.values; shown = d.shown.items } in
    let P : Machine → Type 0 = λ m. IsSet (logic m) m c.args.net.0 c.args.value after in
    let L : Machine → Type 0 = λ m. c.args.net.0 < length m.netlist.nets in
    let named = subst L (sym c.self.view_is) c.requires in
    let live : c.args.net.0 < length d.inputs.items = omega (arith, named) in
    subst P c.self.view_is
    (set_done (machine_of d) after d.circuit c.args.net.0 c.args.value i.compiled refl refl refl refl live i.cells c.act.ensures.count c.act.ensures.each)
