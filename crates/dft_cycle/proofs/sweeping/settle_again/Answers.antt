-- Each net that is not marked has its driver's value.
use Rattle.std.proofs.Common.{◌∙◌, ap, map, subst}
use Rattle.dft_logic.specs.Circuit.{Circuit, IsCircuit, cell_of}
use Rattle.dft_takings.specs.Views.{view_base}
use Rattle.dft_logic.specs.Tables.{list_at}
use Rattle.dft_cycle.proofs.DomainLemmas.{ready_refreshed}
use Rattle.dft_cycle.proofs.sweeping.settle_again.Goals as goal

pub sweep-requires-clause-given : goal.sweep-requires-clause-given
sweep-requires-clause-given c =
    ready_refreshed c.args.circuit.now (view_base (map cell_of c.args.circuit.now.flops) c.args.view.now) c.args.values.now c.refresh.new.values c.args.marked.now c.refresh.new.marked c.list_of-sources.result.now (subst IsCircuit c.circuit.view_is c.circuit.invariant)
    (c.list_of-sources.ensures ∙ ap (λ (m : Circuit). list_at m.sources 0) c.circuit.view_is) c.requires.ready c.refresh.ensures.given

pub returns-else-refresh-clause-given : goal.returns-else-refresh-clause-given
returns-else-refresh-clause-given c = λ k.
    (ready_refreshed c.args.circuit.now (view_base (map cell_of c.args.circuit.now.flops) c.args.view.now) c.args.values.now c.refresh.new.values c.args.marked.now c.refresh.new.marked c.list_of-sources.result.now (subst IsCircuit c.circuit.view_is c.circuit.invariant)
    (c.list_of-sources.ensures ∙ ap (λ (m : Circuit). list_at m.sources 0) c.circuit.view_is) c.requires.ready c.refresh.ensures.given k (c.refresh.ensures.none c.if-refresh.false k (c.requires.clear k)))
