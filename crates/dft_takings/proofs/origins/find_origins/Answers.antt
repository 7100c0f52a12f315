-- One net more is told.
use Rattle.std.proofs.Common.{◌≤◌, ◌∙◌, length, ap, subst, None, arith}
use Rattle.dft_abstract.specs.Cycle.{level_before}
use Rattle.dft_logic.specs.Circuit.{Circuit, IsCircuit}
use Rattle.dft_takings.specs.Views.{pulse_at}
use Rattle.dft_takings.specs.EntryTables.{number_of}
use Rattle.dft_logic.specs.CircuitShown.{circuit_of}
use Rattle.dft_logic.proofs.CircuitReads.{op_read}
use Rattle.dft_logic.proofs.Fillings.{filling_step}
use Rattle.dft_takings.proofs.OriginLemmas.{given, origin_depends, all_origins}
use Rattle.dft_takings.proofs.origins.find_origins.Goals as goal

pub loop-net-preserved : goal.loop-net-preserved
loop-net-preserved c =
    let x = c.args.circuit.now in
    let level = level_before (pulse_at c.args.pulse) in
    filling_step number_of None (given level) (origin_depends level) x.ops x.order c.deref-net-items.result.now c.loop-net.origins c.loop-net.net-index _ _
    (c.deref-net-items.ensures.value ∙ ap (λ (m : Circuit). m.order) c.circuit.view_is) c.loop-net-test.true (c.loop-net.auto.origins ∙ c.requires.origins) c.loop-net.invariant (op_read (circuit_of c.circuit.inside) c.args.circuit.now _ _ c.circuit.view_is c.index.ensures) c.op_origin-origin.ensures

pub returns : goal.returns
returns c =
    let x = c.args.circuit.now in
    let past : length x.order ≤ c.loop-net.net-index = omega (arith, ap length c.deref-net-items.ensures.value, ap (λ (m : Circuit). length m.order) c.circuit.view_is, c.loop-net-test.false) in
    all_origins x (level_before (pulse_at c.args.pulse)) c.loop-net.origins c.loop-net.net-index (subst IsCircuit c.circuit.view_is c.circuit.invariant) (c.loop-net.auto.origins ∙ c.requires.origins) past c.loop-net.invariant
