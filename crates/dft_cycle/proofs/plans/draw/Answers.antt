-- The circuit's nets are in order.
use Rattle.std.proofs.Common.{List, [], sym, subst, ap, ◌∙◌}
use Rattle.dft_netlist.specs.declared.ids.NetId.{NetId}
use Rattle.dft_netlist.specs.Orders.{numbers_of}
use Rattle.dft_logic.specs.Circuit.{Circuit, IsCircuit, AreOrdered}
use Rattle.dft_cycle.proofs.plans.draw.Goals as goal

pub settle_list-requires-clause-ordered : goal.settle_list-requires-clause-ordered
settle_list-requires-clause-ordered c = subst (λ (l : List NetId). AreOrdered c.args.phase.circuit.now.ops [] (numbers_of l)) (sym (c.deref.ensures.value ∙ ap (λ (m : Circuit). m.order) c.circuit.view_is)) (subst IsCircuit c.circuit.view_is c.circuit.invariant).after
