-- One net more.
use Rattle.std.proofs.Common.{List, ◌≡◌, ◌<◌, ◌∙◌, ap, length, get_or, arith, subst}
use Rattle.dft_logic.specs.Circuit.{Circuit, IsCircuit}
use Rattle.dft_logic.proofs.Sweeps.{sweeping_starts, sweeping_more, swept}
use Rattle.dft_netlist.specs.declared.ids.NetId.{NetId}
use Rattle.dft_cycle.proofs.sweeping.sweep.Goals as goal

pub loop-net-init : goal.loop-net-init
loop-net-init c = sweeping_starts c.args.circuit.now _ _ (subst IsCircuit c.circuit.view_is c.circuit.invariant) c.requires.given

pub loop-net-preserved : goal.loop-net-preserved
loop-net-preserved c =
    let items : c.deref-net-items.result.now ≡ c.args.circuit.now.order = c.deref-net-items.ensures.value ∙ ap (λ (m : Circuit). m.order) c.circuit.view_is in
    let less : c.loop-net.net-index < length c.args.circuit.now.order = (let here = c.loop-net-test.true in omega (arith, ap length items)) in
    sweeping_more c.args.circuit.now.ops _ _ c.args.circuit.now.order c.loop-net.marked c.settle_marked.new.marked c.loop-net.net-index
    (get_or c.deref-net-items.result.now c.loop-net.net-index (record { 0 = 0 })) (record { 0 = 0 }) less (ap (λ (l : List NetId). get_or l c.loop-net.net-index (record { 0 = 0 })) items)
    c.loop-net.invariant c.settle_marked.ensures.given c.settle_marked.ensures.raised

pub returns-clause-given : goal.returns-clause-given
returns-clause-given c = λ k. c.loop-net.invariant.given k (swept c.args.circuit.now _ c.loop-net.marked c.loop-net.net-index (omega (arith, ap length (c.deref-net-items.ensures.value ∙ ap (λ (m : Circuit). m.order) c.circuit.view_is))) (c.loop-net.auto.marked ∙ c.requires.marked) c.loop-net.invariant k)

pub returns-clause-clear : goal.returns-clause-clear
returns-clause-clear c = swept c.args.circuit.now _ c.loop-net.marked c.loop-net.net-index (omega (arith, ap length (c.deref-net-items.ensures.value ∙ ap (λ (m : Circuit). m.order) c.circuit.view_is))) (c.loop-net.auto.marked ∙ c.requires.marked) c.loop-net.invariant
