-- One net more has its driver's value.
use Rattle.std.proofs.Common.{◌∙◌, ap, subst, map, length, arith}
use Rattle.dft_logic.specs.Circuit.{Circuit, IsCircuit, logic_at, cell_of}
use Rattle.dft_takings.specs.Views.{view_base}
use Rattle.dft_logic.specs.CircuitShown.{circuit_of}
use Rattle.dft_logic.proofs.CircuitReads.{op_read}
use Rattle.dft_takings.proofs.Listings.{listed_starts, step, all_settled}
use Rattle.dft_takings.proofs.settling.settle.Goals as goal

pub loop-net-init : goal.loop-net-init
loop-net-init c =
    let x = c.args.circuit.now in
    let is : IsCircuit x = subst IsCircuit c.circuit.view_is c.circuit.invariant in
    listed_starts x.ops (view_base (map cell_of x.flops) c.args.view.now) x.order _ is.after

pub loop-net-preserved : goal.loop-net-preserved
loop-net-preserved c =
    let x = c.args.circuit.now in
    let v = c.args.view.now in
    step x.ops (view_base (map cell_of x.flops) v) x.order c.deref-net-items.result.now c.loop-net.values c.loop-net.net-index _ _
    (c.deref-net-items.ensures.value ∙ ap (λ (m : Circuit). m.order) c.circuit.view_is) c.loop-net-test.true (c.loop-net.auto.values ∙ c.requires.values) c.loop-net.invariant (op_read (circuit_of c.circuit.inside) c.args.circuit.now _ _ c.circuit.view_is c.index.ensures) (rw (c.deref.ensures.value, ap (λ (m : Circuit). m.flops) c.circuit.view_is) at c.op_value-value.ensures)

pub returns : goal.returns
unfolding logic_at
returns c =
    let x = c.args.circuit.now in
    let v = c.args.view.now in
    all_settled x (view_base (map cell_of x.flops) v) c.loop-net.values c.loop-net.net-index (subst IsCircuit c.circuit.view_is c.circuit.invariant) (omega (arith, ap length c.deref-net-items.ensures.value, ap (λ (m : Circuit). length m.order) c.circuit.view_is)) (c.loop-net.auto.values ∙ c.requires.values) c.loop-net.invariant
