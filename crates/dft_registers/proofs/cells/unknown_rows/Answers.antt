-- One row more is unknown.
use Rattle.std.proofs.Common.{ℕ, List, [], ◌∷◌, inl, inr, ◌≡◌, ◌+◌, ◌∙◌, sym, ap, length, arith}
use Rattle.std.specs.Prelude.{replicate}
use Rattle.std.proofs.lemmas.Bool.Decides.{leb_tells}
use Rattle.std.proofs.lemmas.List.{length-append, get_or_past}
use Rattle.dft_registers.specs.Layout.{cells_at}
use Rattle.dft_registers.proofs.ListLemmas.{more_same}
use Rattle.dft_registers.proofs.cells.unknown_rows.Goals as goal

pub loop-number-preserved : goal.loop-number-preserved
loop-number-preserved g c =
    let n : ℕ = c.loop-number.number in
    let old : List (List _) = c.loop-number.rows.items in
    let f : ℕ → List _ = λ r. replicate (length (cells_at c.args.layout.now.registers r)) g.V.Value.unknown_value in
    rw c.in_ok-push.ensures.items (length-append old (_ ∷ []) ∙ ap (λ (k : ℕ). k + 1) c.loop-number.invariant.0, more_same f old _ [] n c.loop-number.invariant.0 (c.in_ok-unknown.ensures ∙ ap (λ (l : List ℕ). replicate (length l) g.V.Value.unknown_value) c.register.ensures) c.loop-number.invariant.1)

pub returns-clause-count : goal.returns-clause-count
returns-clause-count g c = omega (arith, c.loop-number.invariant.0, c.registers-number-end.ensures, c.loop-number-test.false, c.loop-number.auto.number-end)

pub returns-clause-each : goal.returns-clause-each
returns-clause-each g c = λ r.
    (let rows : List (List _) = c.loop-number.rows.items in
    let registers : List (List ℕ) = c.args.layout.now.registers in
    let many : c.loop-number.number ≡ length registers = omega (arith, c.registers-number-end.ensures, c.loop-number-test.false, c.loop-number.auto.number-end) in
    elim (leb_tells (length registers) r) [
      | inl out ↦ get_or_past rows r [] (omega (arith, many, c.loop-number.invariant.0, out.1)) ∙ sym (ap (λ (l : List ℕ). replicate (length l) g.V.Value.unknown_value) (get_or_past registers r [] out.1))
      | inr live ↦ c.loop-number.invariant.1 r (omega (arith, many, live.1))
    ])
