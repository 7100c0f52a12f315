-- One net more.
use Rattle.std.proofs.Common.{ℕ, ◌≡◌, length, ap, subst, arith}
use Rattle.dft_logic.specs.Circuit.{Circuit, IsCircuit}
use Rattle.dft_logic.specs.CircuitShown.{circuit_of}
use Rattle.dft_logic.proofs.CircuitReads.{net_read}
use Rattle.dft_takings.proofs.NeedLemmas.{Needing, needing_step, needing_ends, ordered_live}
use Rattle.dft_takings.proofs.needs.mark_needed.Goals as goal

pub mark_read-requires-clause-live : goal.mark_read-requires-clause-live
mark_read-requires-clause-live c = ordered_live c.args.circuit.now c.loop-place.place c.index.result.now (subst IsCircuit c.circuit.view_is c.circuit.invariant) (omega (arith, ap (λ (m : Circuit). length m.order) c.circuit.view_is, c.loop-place-test.true)) (omega (arith, ap (λ (m : Circuit). length m.order) c.circuit.view_is, c.loop-place.auto.place)) (net_read (circuit_of c.circuit.inside) c.args.circuit.now _ _ c.circuit.view_is c.index.ensures)

pub loop-place-preserved : goal.loop-place-preserved
loop-place-preserved c =
    needing_step c.args.circuit.now c.args.marked.now c.loop-place.marked c.mark_read.new.marked c.loop-place.place c.index.result.now (subst IsCircuit c.circuit.view_is c.circuit.invariant) (omega (arith, ap (λ (m : Circuit). length m.order) c.circuit.view_is, c.loop-place-test.true)) (omega (arith, ap (λ (m : Circuit). length m.order) c.circuit.view_is, c.loop-place.auto.place))
    (net_read (circuit_of c.circuit.inside) c.args.circuit.now _ _ c.circuit.view_is c.index.ensures) c.mark_read.ensures.read c.mark_read.ensures.kept c.mark_read.ensures.only c.loop-place.invariant

pub returns-clause-closed : goal.returns-clause-closed
returns-clause-closed c =
    let P : ℕ → Type 0 = λ j. Needing c.args.circuit.now.ops c.args.circuit.now.order c.args.marked.now c.loop-place.marked j in
    let done : c.loop-place.place ≡ 0 = omega (arith, c.loop-place-test.false) in
    needing_ends c.args.circuit.now c.args.marked.now c.loop-place.marked (subst IsCircuit c.circuit.view_is c.circuit.invariant) (subst P done c.loop-place.invariant)
