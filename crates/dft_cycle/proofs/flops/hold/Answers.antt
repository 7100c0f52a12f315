-- One lock-up more has its value.
use Rattle.std.proofs.Common.{ℕ, Option, None, ◌≡◌, ◌<◌, ◌∙◌, refl, ap, sym, length, get_or, arith, subst}
use Rattle.std.proofs.lemmas.List.{get_or_read, get_or_default}
use Rattle.dft_base.specs.declared.tri.Tri.{Tri}
use Rattle.dft_base.specs.declared.tri.Tri.TheVariants.{Zero, Unknown}
use Rattle.dft_netlist.proofs.ListingLemmas.{has_item}
use Rattle.dft_logic.specs.declared.circuit.Latch.{Latch}
use Rattle.dft_cycle.specs.Machine.{value_at}
use Rattle.dft_logic.specs.Circuit.{Circuit, IsCircuit, latch_of, latch_at}
use Rattle.dft_cycle.specs.Views.{held_by}
use Rattle.dft_logic.specs.Tables.{list_at}
use Rattle.dft_logic.proofs.Writings.{write_same}
use Rattle.dft_cycle.proofs.DomainLemmas.{listed_more, holder_listed, held_once}
use Rattle.dft_logic.specs.CircuitShown.{circuit_of}
use Rattle.dft_logic.proofs.CircuitReads.{latch_read}
use Rattle.dft_cycle.proofs.flops.hold.Goals as goal
use Rattle.dft_cycle.proofs.flops.hold.Goals.{then-changed, else-changed}

pub index-requires : goal.index-requires
index-requires c =
    let x = c.args.circuit.now in
    let xs = c.list_of-latch-items.result.now in
    let named : xs ≡ list_at x.holders c.args.domain.0 = c.list_of-latch-items.ensures ∙ ap (λ (m : Circuit). list_at m.holders c.args.domain.0) c.circuit.view_is in
    let own = holder_listed x c.args.domain.0 (get_or xs c.loop-latch.latch-index 0) xs (subst IsCircuit c.circuit.view_is c.circuit.invariant) named (has_item xs c.loop-latch.latch-index 0 c.loop-latch-test.true) in
    let less = own.0 in
    let e = c.circuit.inside.latches.ok.0 in
    omega (arith, ap (λ (m : Circuit). length m.latches) c.circuit.view_is)

pub bounds-held-place : goal.bounds-held-place
bounds-held-place c =
    let x = c.args.circuit.now in
    let xs = c.list_of-latch-items.result.now in
    let named : xs ≡ list_at x.holders c.args.domain.0 = c.list_of-latch-items.ensures ∙ ap (λ (m : Circuit). list_at m.holders c.args.domain.0) c.circuit.view_is in
    let own = holder_listed x c.args.domain.0 (get_or xs c.loop-latch.latch-index 0) xs (subst IsCircuit c.circuit.view_is c.circuit.invariant) named (has_item xs c.loop-latch.latch-index 0 c.loop-latch-test.true) in
    let less = own.0 in
    let e = c.loop-latch.auto.held ∙ c.requires.held in
    omega arith

pub loop-latch-preserved : goal.loop-latch-preserved
loop-latch-preserved c =
    let x = c.args.circuit.now in
    let xs = c.list_of-latch-items.result.now in
    let place : ℕ = get_or xs c.loop-latch.latch-index 0 in
    let d : ℕ = c.args.domain.0 in
    let values : ℕ → Tri = value_at c.args.values.now in
    let named : xs ≡ list_at x.holders d = c.list_of-latch-items.ensures ∙ ap (λ (m : Circuit). list_at m.holders d) c.circuit.view_is in
    let own = holder_listed x d place xs (subst IsCircuit c.circuit.view_is c.circuit.invariant) named (has_item xs c.loop-latch.latch-index 0 c.loop-latch-test.true) in
    let less : place < length x.latches = own.0 in
    let live : place < length c.loop-latch.held = (let e = c.loop-latch.auto.held ∙ c.requires.held in omega arith) in
    let old : Tri = c.value_at-old.result in
    let read : old ≡ get_or c.loop-latch.held place Zero = c.value_at-old.ensures ∙ get_or_default c.loop-latch.held place Unknown Zero live in
    let value : c.held_value-value.result ≡ held_by (latch_at x.latches place) d values old =
    c.held_value-value.ensures ∙ ap (λ (k : Option Latch). held_by (latch_of k) d values old) (get_or_read x.latches place c.index.result.now less (latch_read (circuit_of c.circuit.inside) x _ _ c.circuit.view_is c.index.ensures) None) in
    record {
      written = listed_more (length x.latches) c.args.held.now c.loop-latch.held (λ k was. held_by (latch_at x.latches k) d values was) xs c.loop-latch.latch-index place 0 c.held_value-value.result refl c.loop-latch-test.true live
          c.loop-latch.invariant.written (value ∙ held_once (latch_at x.latches place) d values old (value_at c.args.held.now place) own.1);
      same = λ h. elim c.if-changed.branch [
        | then-changed w ↦ (let p = w.changed-is in let q = w.if-changed.true in absurd (cc))
        | else-changed w ↦ write_same c.loop-latch.held place c.held_value-value.result live (w.differ-changed.ensures.same (sym w.changed-is ∙ h) ∙ read) ∙ c.loop-latch.invariant.same w.if-changed.false
      ];
    }
