-- The rises and the falls give a round in each live lane.
use Rattle.std.proofs.Common.{◌∙◌, length, sym, subst}
use Rattle.dft_registers.specs.Layout.{Layout}
use Rattle.dft_fault_lanes.specs.Made.{IsPlan}
use Rattle.dft_fault_lanes.specs.Plans.{needs_of}
use Rattle.dft_fault_lanes.specs.Seen.{knows, seen}
use Rattle.dft_fault_lanes.proofs.IdleLemmas.{idle_pulsed}
use Rattle.dft_fault_lanes.proofs.RoundLemmas.{seen_pulsed}
use Rattle.dft_fault_lanes.proofs.pulsing.pulse.Goals as goal

pub fall-requires-clause-plan : goal.fall-requires-clause-plan
fall-requires-clause-plan c =
    let P : Layout → Type 0 = λ l. IsPlan c.args.play.circuit.now c.args.play.clamps.now l c.requires.plan.0 c.args.play.plan.now in
    (c.requires.plan.0, subst P (sym c.rise.ensures.layout) c.requires.plan.1)

pub fall-requires-clause-count : goal.fall-requires-clause-count
fall-requires-clause-count c = c.rise.ensures.count ∙ c.requires.count

pub returns-clause-layout : goal.returns-clause-layout
returns-clause-layout c = c.fall.ensures.layout ∙ c.rise.ensures.layout

pub returns-clause-count : goal.returns-clause-count
returns-clause-count c = c.fall.ensures.count ∙ c.rise.ensures.count

pub returns-clause-pulsed : goal.returns-clause-pulsed
returns-clause-pulsed c =
    seen_pulsed c.args.play.circuit.now c.args.play.plan.now.marked.items c.args.play.ports.now c.args.play.plan.now.pulsed.items c.args.play.clamps.now c.args.wides.now c.args.cells.now.values c.rise.new.cells.values c.fall.new.cells.values
    c.args.live.now c.rise.new.live c.fall.new.live c.soundness.ensures c.requires.plan.1.closed c.requires.strobe c.rise.ensures.phase c.fall.ensures.fall

pub returns-clause-idle : goal.returns-clause-idle
returns-clause-idle c = λ settled.
    (let x = c.args.play.circuit.now in
    let p = c.args.play.plan.now in
    let clamps = c.args.play.clamps.now in
    idle_pulsed x (needs_of (length x.ops) p.marked.items) (knows x.ops clamps p.marked.items) c.args.play.ports.now p.pulsed.items clamps (seen x.ops clamps p.marked.items c.args.cells.now.values c.args.wides.now)
    c.args.cells.now.values c.rise.new.cells.values c.fall.new.cells.values c.args.live.now c.rise.new.live c.fall.new.live (c.rise.ensures.phase settled) c.fall.ensures.fall c.requires.idle)
