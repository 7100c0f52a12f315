-- All marked nets are listed.
use Rattle.std.proofs.Common.{◌≤◌, length, ap, subst, arith}
use Rattle.dft_logic.specs.Circuit.{Circuit, IsCircuit}
use Rattle.dft_takings.proofs.NeedLemmas.{list_ordered, list_has}
use Rattle.dft_takings.proofs.needs.list_marked.Goals as goal

pub returns-clause-ordered : goal.returns-clause-ordered
returns-clause-ordered c = λ closed.
    (let past : length c.args.circuit.now.order ≤ c.loop-net.net-index = omega (arith, ap length c.deref-net-items.ensures.value, ap (λ (m : Circuit). length m.order) c.circuit.view_is, c.loop-net-test.false) in
    list_ordered c.args.circuit.now c.args.marked.now c.loop-net.list c.loop-net.count c.loop-net.net-index (subst IsCircuit c.circuit.view_is c.circuit.invariant) closed past c.loop-net.invariant)

pub returns-clause-listed : goal.returns-clause-listed
returns-clause-listed c =
    let past : length c.args.circuit.now.order ≤ c.loop-net.net-index = omega (arith, ap length c.deref-net-items.ensures.value, ap (λ (m : Circuit). length m.order) c.circuit.view_is, c.loop-net-test.false) in
    list_has c.args.circuit.now c.args.marked.now c.loop-net.list c.loop-net.count c.loop-net.net-index (subst IsCircuit c.circuit.view_is c.circuit.invariant) c.requires.marked past c.loop-net.invariant
