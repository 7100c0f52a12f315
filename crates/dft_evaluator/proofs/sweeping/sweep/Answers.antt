-- One net more is settled.
use Rattle.std.proofs.Common.{◌∙◌, ap, length, arith}
use Rattle.dft_logic.specs.Circuit.{Circuit}
use Rattle.dft_logic.specs.CircuitShown.{circuit_of}
use Rattle.dft_logic.proofs.CircuitReads.{op_read}
use Rattle.dft_evaluator.proofs.SweepLemmas.{step, all_settled}
use Rattle.dft_evaluator.proofs.sweeping.sweep.Goals as goal

pub loop-net-preserved : goal.loop-net-preserved
loop-net-preserved c =
    step c.args.circuit.now.ops c.args.wides.now c.args.circuit.now.order c.deref-net-items.result.now c.loop-net.wides c.loop-net.net-index _ _
    (c.deref-net-items.ensures.value ∙ ap (λ (m : Circuit). m.order) c.circuit.view_is) c.loop-net-test.true (c.loop-net.auto.wides ∙ c.requires.nets) c.loop-net.invariant (op_read (circuit_of c.circuit.inside) c.args.circuit.now _ _ c.circuit.view_is c.index.ensures) c.op_wide-wide.ensures

pub returns-clause-settled : goal.returns-clause-settled
returns-clause-settled c =
    all_settled c.args.circuit.now c.args.wides.now c.loop-net.wides c.loop-net.net-index (omega (arith, ap length c.deref-net-items.ensures.value, ap (λ (m : Circuit). length m.order) c.circuit.view_is)) (c.loop-net.auto.wides ∙ c.requires.nets) c.requires.nets c.loop-net.invariant
