-- One net more is told.
use Rattle.std.proofs.Common.{◌≤◌, ◌∙◌, length, map, ap, subst, arith}
use Rattle.dft_takings.specs.declared.shown.Shown.TheVariants.{Nothing}
use Rattle.dft_logic.specs.Circuit.{Circuit, IsCircuit, cell_of, flag_at}
use Rattle.dft_takings.specs.ShownTables.{shown_of, shown_in}
use Rattle.dft_logic.specs.CircuitShown.{circuit_of}
use Rattle.dft_logic.proofs.CircuitReads.{op_read}
use Rattle.dft_logic.proofs.Fillings.{filling_step}
use Rattle.dft_takings.proofs.ShownTableLemmas.{shown_depends, all_shown}
use Rattle.dft_takings.proofs.shown.show_all.Goals as goal

pub loop-net-preserved : goal.loop-net-preserved
loop-net-preserved c =
    let x = c.args.circuit.now in
    let cells = map cell_of x.flops in
    filling_step shown_of Nothing (shown_in cells c.args.rising (flag_at c.args.pulsed.now)) (shown_depends cells c.args.rising (flag_at c.args.pulsed.now)) x.ops x.order c.deref-net-items.result.now c.loop-net.shown c.loop-net.net-index _ _
    (c.deref-net-items.ensures.value ∙ ap (λ (m : Circuit). m.order) c.circuit.view_is) c.loop-net-test.true (c.loop-net.auto.shown ∙ c.requires.shown) c.loop-net.invariant (op_read (circuit_of c.circuit.inside) c.args.circuit.now _ _ c.circuit.view_is c.index-op.ensures) (rw (c.deref.ensures.value, ap (λ (m : Circuit). m.flops) c.circuit.view_is) at c.op_shown-given.ensures)

pub returns : goal.returns
returns c =
    let x = c.args.circuit.now in
    let past : length x.order ≤ c.loop-net.net-index = omega (arith, ap length c.deref-net-items.ensures.value, ap (λ (m : Circuit). length m.order) c.circuit.view_is, c.loop-net-test.false) in
    all_shown x c.args.rising (flag_at c.args.pulsed.now) c.loop-net.shown c.loop-net.net-index (subst IsCircuit c.circuit.view_is c.circuit.invariant) (c.loop-net.auto.shown ∙ c.requires.shown) past c.loop-net.invariant
