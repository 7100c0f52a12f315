-- The first cell of a kind in a library.
use Rattle.std.proofs.Common.{ℕ, zero, suc, ◌+◌, ◌≡◌, ◌<◌, Bool, true, false, List, [], ◌∷◌, Some, length, slice_get, refl, sym, ap, arith, ◌∙◌}
use Rattle.std.specs.Prelude.{if◌then◌else◌}
use Rattle.std.proofs.lemmas.Option.{none-some, same_Some, slice_get_within}
use Rattle.dft_cells.specs.declared.kind.Kind.{Kind}
use Rattle.dft_cells.specs.declared.kind.TheConstants.{DFF}
use Rattle.dft_cells.specs.declared.kind.Kind.TheVariants as kind
use Rattle.dft_cells.specs.declared.cell.Cell.{Cell}
use Rattle.dft_cells.specs.declared.cell.CellId.{CellId}
use Rattle.dft_cells.specs.Cells.{IsFirstOf}
use Rattle.dft_cells.proofs.KindLemmas.{dff_only}
use Rattle.dft_parts.specs.Cells.{is_dff, is_lockup, first_from, numbered_cell, first_cell}

not_dff : (k : Kind) → (k ≡ DFF → ⊥) → is_dff k ≡ false
not_dff k h = by (is_dff k) refl
  where
    by : (b : Bool) → is_dff k ≡ b → b ≡ false
    by true e = absurd (h (dff_only k e))
    by false e = refl

not_lockup : (k : Kind) → (k ≡ kind.Lockup → ⊥) → is_lockup k ≡ false
not_lockup (kind.Gate gate) h = refl
not_lockup (kind.Flop flop) h = refl
not_lockup kind.Opaque h = refl
not_lockup kind.Lockup h = absurd (h refl)

-- the number of the first cell that passes
first_at : (test : Kind → Bool) (from k : ℕ) (xs : List Cell) (x : Cell) → slice_get xs k ≡ Some x → test x.kind ≡ true → ((j : ℕ) (z : Cell) → j < k → slice_get xs j ≡ Some z → test z.kind ≡ false) → first_from test from xs ≡ Some (from + k)
first_at test from k [] x at is before = absurd (none-some x at)
first_at test from zero (z ∷ xs) x at is before = ap (λ b. if b then Some from else first_from test (suc from) xs) (ap (λ (c : Cell). test c.kind) (same_Some z x at) ∙ is) ∙ ap Some (omega arith)
first_at test from (suc k) (z ∷ xs) x at is before =
    ap (λ b. if b then Some from else first_from test (suc from) xs) (before zero z (omega arith) refl)
    ∙ first_at test (suc from) k xs x at is (λ j y less there. before (suc j) y (omega (arith, less)) there) ∙ ap Some (omega arith)

first_is : (test : Kind → Bool) (k : Kind) (library : List Cell) (id : CellId) → test k ≡ true → ((other : Kind) → (other ≡ k → ⊥) → test other ≡ false) → IsFirstOf library k id → id ≡ first_cell test library
first_is test k library id is other first =
    let number : first_from test zero library ≡ Some (zero + id.0) =
    first_at test zero id.0 library first.cell first.at (ap test first.kind_is ∙ is) (λ j z less there. other z.kind (first.before j z less there)) in
    let same : zero + id.0 ≡ id.0 = omega arith in
    sym (ap numbered_cell (number ∙ ap Some same))

pub first_dff_is : (library : List Cell) (id : CellId) → IsFirstOf library DFF id → id ≡ first_cell is_dff library
first_dff_is library id first = first_is is_dff DFF library id refl not_dff first

pub first_lockup_is : (library : List Cell) (id : CellId) → IsFirstOf library kind.Lockup id → id ≡ first_cell is_lockup library
first_lockup_is library id first = first_is is_lockup kind.Lockup library id refl not_lockup first

pub first_there : (library : List Cell) (k : Kind) (id : CellId) → IsFirstOf library k id → id.0 < length library
first_there library k id first = slice_get_within library id.0 first.cell first.at
