-- One flip-flop more has its value.
use Rattle.std.proofs.Common.{ℕ, ◌≡◌, ◌<◌, ◌∙◌, refl, ap, length, map, get_or, arith, subst}
use Rattle.std.proofs.lemmas.List.{get_or_read}
use Rattle.dft_base.specs.declared.tri.Tri.{Tri}
use Rattle.dft_behavior.specs.Logic.{Cell}
use Rattle.dft_netlist.proofs.ListingLemmas.{has_item}
use Rattle.dft_logic.specs.declared.circuit.FlipFlop.{FlipFlop}
use Rattle.dft_cycle.specs.Machine.{value_at}
use Rattle.dft_logic.specs.Circuit.{Circuit, IsCircuit, cell_of, cell_at}
use Rattle.dft_cycle.specs.Views.{next_at, next_by}
use Rattle.dft_logic.specs.Tables.{list_at}
use Rattle.dft_logic.proofs.Writings.{cell_read}
use Rattle.dft_cycle.proofs.DomainLemmas.{listed_more, cell_listed, next_listed}
use Rattle.dft_logic.specs.CircuitShown.{circuit_of}
use Rattle.dft_logic.proofs.CircuitReads.{flop_read}
use Rattle.dft_cycle.proofs.flops.take_next.Goals as goal

pub index-requires : goal.index-requires
index-requires c =
    let x = c.args.circuit.now in
    let xs = c.list_of-cell-items.result.now in
    let named : xs ≡ list_at x.cells c.args.domain.0 = c.list_of-cell-items.ensures ∙ ap (λ (m : Circuit). list_at m.cells c.args.domain.0) c.circuit.view_is in
    let own = cell_listed x c.args.domain.0 (get_or xs c.loop-cell.cell-index 0) xs (subst IsCircuit c.circuit.view_is c.circuit.invariant) named (has_item xs c.loop-cell.cell-index 0 c.loop-cell-test.true) in
    let less = own.0 in
    let e = c.circuit.inside.flops.ok.0 in
    omega (arith, ap (λ (m : Circuit). length m.flops) c.circuit.view_is)

pub bounds-next-place : goal.bounds-next-place
bounds-next-place c =
    let x = c.args.circuit.now in
    let xs = c.list_of-cell-items.result.now in
    let named : xs ≡ list_at x.cells c.args.domain.0 = c.list_of-cell-items.ensures ∙ ap (λ (m : Circuit). list_at m.cells c.args.domain.0) c.circuit.view_is in
    let own = cell_listed x c.args.domain.0 (get_or xs c.loop-cell.cell-index 0) xs (subst IsCircuit c.circuit.view_is c.circuit.invariant) named (has_item xs c.loop-cell.cell-index 0 c.loop-cell-test.true) in
    let less = own.0 in
    let e = c.loop-cell.auto.next ∙ c.requires.next in
    omega arith

pub loop-cell-preserved : goal.loop-cell-preserved
loop-cell-preserved c =
    let x = c.args.circuit.now in
    let xs = c.list_of-cell-items.result.now in
    let place : ℕ = get_or xs c.loop-cell.cell-index 0 in
    let d : ℕ = c.args.domain.0 in
    let ports : ℕ → Tri = value_at c.args.ports.now in
    let values : ℕ → Tri = value_at c.args.values.now in
    let named : xs ≡ list_at x.cells d = c.list_of-cell-items.ensures ∙ ap (λ (m : Circuit). list_at m.cells d) c.circuit.view_is in
    let own = cell_listed x d place xs (subst IsCircuit c.circuit.view_is c.circuit.invariant) named (has_item xs c.loop-cell.cell-index 0 c.loop-cell-test.true) in
    let less : place < length x.flops = own.0 in
    let live : place < length c.loop-cell.next = (let e = c.loop-cell.auto.next ∙ c.requires.next in omega arith) in
    let cell : Cell = cell_at (map cell_of x.flops) place in
    let value : c.next.result ≡ next_at cell ports values = c.next.ensures ∙ ap (λ (f : FlipFlop). next_at (cell_of f) ports values) (get_or_read x.flops place c.index.result.now less (flop_read (circuit_of c.circuit.inside) x _ _ c.circuit.view_is c.index.ensures) c.index.result.now)
    ∙ ap (λ (k : Cell). next_at k ports values) (cell_read x.flops place c.index.result.now less) in
    listed_more (length x.flops) c.args.next.now c.loop-cell.next (λ k old. next_by (cell_at (map cell_of x.flops) k) d ports values old) xs c.loop-cell.cell-index place 0 c.next.result refl c.loop-cell-test.true live
    c.loop-cell.invariant (next_listed cell d ports values c.next.result (value_at c.args.next.now place) own.1 value)
