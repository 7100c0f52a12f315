-- What is not marked is near.
use Rattle.std.proofs.Common.{List, ℕ, ◌⊎◌, ◌∙◌, ap, sym, subst}
use Rattle.dft_netlist.specs.Orders.{Has}
use Rattle.dft_logic.specs.Circuit.{Circuit, IsCircuit}
use Rattle.dft_logic.specs.Tables.{list_at}
use Rattle.dft_logic.specs.Values.{value_at}
use Rattle.dft_sweep.specs.Fields.{IsGivenIf}
use Rattle.dft_seek.specs.Nodes.{sources_in}
use Rattle.dft_seek.specs.Rigs.{means_of}
use Rattle.dft_seek.proofs.EvaluateLemmas.{near_other}
use Rattle.dft_seek.proofs.rig.Rig.settle.Goals as goal

pub settle_nets-requires-clause-live : goal.settle_nets-requires-clause-live
settle_nets-requires-clause-live c = λ k h.
    (let is = subst IsCircuit c.circuit.view_is c.circuit.invariant in
    (is.tables.sources.only 0 k (subst (λ (l : List ℕ). Has l k) (c.list_of-nets.ensures ∙ ap (λ (m : Circuit). list_at m.sources 0) c.circuit.view_is) h)).0)

pub settle_nets-requires-clause-near : goal.settle_nets-requires-clause-near
settle_nets-requires-clause-near c = λ k down.
    (let r = c.args.self.now in
    let s = sources_in r (value_at c.args.ports.now) (value_at c.args.cells.now) in
    subst (λ (l : List ℕ). Has l k ⊎ IsGivenIf c.args.cone.now.needed.items (means_of r.circuit c.args.stuck) s c.args.table.now.values.items k) (sym (c.list_of-nets.ensures ∙ ap (λ (m : Circuit). list_at m.sources 0) c.circuit.view_is)) (near_other r c.args.cone.now.needed.items c.args.stuck c.args.table.now s k (subst IsCircuit c.circuit.view_is c.circuit.invariant) c.requires.near down))
