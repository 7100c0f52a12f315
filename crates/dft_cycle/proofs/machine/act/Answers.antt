-- One flip-flop more was acted on.
use Rattle.std.proofs.Common.{ℕ, List, ◌≡◌, ◌<◌, ◌+◌, ◌∙◌, refl, sym, ap, subst, length, map, drop, get_or, arith}
use Rattle.std.proofs.lemmas.List.{get_or_read, length-set}
use Rattle.dft_base.specs.declared.tri.Tri.{Tri}
use Rattle.dft_cells.specs.FlipFlops.{Forces}
use Rattle.dft_behavior.specs.Logic.{Cell}
use Rattle.dft_netlist.proofs.ListingLemmas.{has_item}
use Rattle.dft_logic.specs.declared.circuit.FlipFlop.{FlipFlop}
use Rattle.dft_cycle.specs.Machine.{value_at, acted}
use Rattle.dft_logic.specs.Circuit.{Circuit, IsCircuit, cell_of, cell_at}
use Rattle.dft_logic.specs.Tables.{list_at}
use Rattle.dft_logic.proofs.Writings.{cell_read}
use Rattle.dft_cycle.proofs.DomainLemmas.{Listed, listed_more, follower_listed, acted_once}
use Rattle.dft_logic.specs.CircuitShown.{circuit_of}
use Rattle.dft_logic.proofs.CircuitReads.{flop_read}
use Rattle.dft_cycle.proofs.machine.act.Goals as goal

pub index-requires : goal.index-requires
index-requires c =
    let x = c.args.circuit.now in
    let xs = c.list_of-cell-items.result.now in
    let named : xs ≡ list_at x.followers c.args.net.0 = c.list_of-cell-items.ensures ∙ ap (λ (m : Circuit). list_at m.followers c.args.net.0) c.circuit.view_is in
    let less = follower_listed x c.args.net.0 (get_or xs c.loop-cell.cell-index 0) xs (subst IsCircuit c.circuit.view_is c.circuit.invariant) named (has_item xs c.loop-cell.cell-index 0 c.loop-cell-test.true) in
    let e = c.circuit.inside.flops.ok.0 in
    omega (arith, ap (λ (m : Circuit). length m.flops) c.circuit.view_is)

pub set-requires : goal.set-requires
set-requires c =
    let x = c.args.circuit.now in
    let xs = c.list_of-cell-items.result.now in
    let named : xs ≡ list_at x.followers c.args.net.0 = c.list_of-cell-items.ensures ∙ ap (λ (m : Circuit). list_at m.followers c.args.net.0) c.circuit.view_is in
    let less = follower_listed x c.args.net.0 (get_or xs c.loop-cell.cell-index 0) xs (subst IsCircuit c.circuit.view_is c.circuit.invariant) named (has_item xs c.loop-cell.cell-index 0 c.loop-cell-test.true) in
    omega (arith, c.loop-cell.invariant.1.1, c.requires.cells, less)

pub loop-cell-preserved : goal.loop-cell-preserved
loop-cell-preserved c =
    let x = c.args.circuit.now in
    let xs = c.list_of-cell-items.result.now in
    let place : ℕ = get_or xs c.loop-cell.cell-index 0 in
    let net : ℕ = c.args.net.0 in
    let old : List Tri = c.loop-cell.cells.values in
    let named : xs ≡ list_at x.followers net = c.list_of-cell-items.ensures ∙ ap (λ (m : Circuit). list_at m.followers net) c.circuit.view_is in
    let less : place < length x.flops = follower_listed x net place xs (subst IsCircuit c.circuit.view_is c.circuit.invariant) named (has_item xs c.loop-cell.cell-index 0 c.loop-cell-test.true) in
    let live : place < length old = omega (arith, c.loop-cell.invariant.1.1, c.requires.cells, less) in
    let force : ℕ → Forces ℕ = λ k. (cell_at (map cell_of x.flops) k).forces in
    let bit : Tri = value_at old place in
    let given : Cell → Tri = λ cell. acted cell.forces net c.args.value bit in
    let value : c.acted_on.result ≡ acted (force place) net c.args.value bit = (rw c.at-bit.ensures at c.acted_on.ensures) ∙ ap (λ (f : FlipFlop). given (cell_of f)) (get_or_read x.flops place c.index.result.now less (flop_read (circuit_of c.circuit.inside) x _ _ c.circuit.view_is c.index.ensures) c.index.result.now)
    ∙ ap given (cell_read x.flops place c.index.result.now less) in
    let start : List Tri = c.args.cells.now.values in
    let P : List Tri → Type 0 = λ l. Listed (length x.flops) start l (λ k old. acted (force k) net c.args.value old) (drop (c.loop-cell.cell-index + 1) xs) in (
      subst P (sym c.set.ensures.values)
          (listed_more (length x.flops) start old (λ k old. acted (force k) net c.args.value old) xs c.loop-cell.cell-index place 0 c.acted_on.result refl c.loop-cell-test.true live c.loop-cell.invariant.0
          (value ∙ acted_once (length x.flops) start old force net place c.args.value (drop c.loop-cell.cell-index xs) less c.loop-cell.invariant.0)),
      (c.set.ensures.layout ∙ c.loop-cell.invariant.1.0, ap (λ (l : List Tri). length l) c.set.ensures.values ∙ length-set old place c.acted_on.result ∙ c.loop-cell.invariant.1.1),
    )
