-- What stamps of load equations tell.
use Rattle.std.proofs.Common.{◌≡◌, ℕ, zero, suc, ◌+◌, ◌<◌, ◌≤◌, ◌==◌, inl, inr, Bool, true, false, not, ◌&&◌, cond, length, refl, sym, ◌∙◌, ap, subst, arith}
use Rattle.std.specs.Ordering.{eq_by_cmp, nat_cmp}
use Rattle.std.specs.Cmp.{unsigned_tied}
use Rattle.std.proofs.lemmas.Bool.{cases_lt}
use Rattle.dft_base.specs.Solutions.{bit_at, xor}
use Rattle.dft_base.proofs.BitLemmas.{same_bit}
use Rattle.dft_base.proofs.NumberLemmas.{same_number}
use Rattle.dft_equations.specs.LoadRows.{IsCell, LoadRows, row_of, rows_of}
use Rattle.dft_decompressor.specs.Stamps.{carried}
use Rattle.dft_configure.specs.Good.{is_alone, same_bits, stands_above, stands_in}
use Rattle.dft_configure.specs.Seen.{AreSeen, stamp_at, stamp_upto}
use Rattle.dft_configure.proofs.GoodLemmas.{all_in, any_in}

-- ---- the same bits have the same stamp

stamps_same : (n : ℕ) (bits others : ℕ → Bool) → ((k : ℕ) → k < n → bits k ≡ others k) → stamp_upto n bits ≡ stamp_upto n others
stamps_same zero bits others each = refl
stamps_same (suc n) bits others each =
    let rest = stamps_same n bits others (λ k less. each k (omega (arith, less))) in
    let last = each n (omega arith) in
    (λ i. carried (rest i) (last i))

same_stamp : (columns : ℕ) (bits others : ℕ → Bool) → same_bits columns bits others ≡ true → stamp_upto columns bits ≡ stamp_upto columns others
same_stamp columns bits others same =
    stamps_same columns bits others (λ k less. same_bit (bits k) (others k) (all_in (λ column. not (xor (bits column) (others column))) columns k same less))

-- ---- a stamp that was not seen

not_true : (b : Bool) → (b ≡ true → ⊥) → true ≡ not b
not_true true fails = absurd (fails refl)
not_true false fails = refl

seen_or_not : (b : Bool) → b ≡ false → b ≡ true → ⊥
seen_or_not true isnt is = absurd cc
seen_or_not false isnt is = absurd cc

-- a load equation whose stamp was not seen stands nowhere before
pub alone_here : (rows : LoadRows) (chain place : ℕ) (seen : ℕ → Bool) → IsCell rows chain place → AreSeen rows chain place seen → seen (stamp_at rows chain place) ≡ false → true ≡ is_alone rows chain place
alone_here rows chain place seen cell before new =
    let row = row_of rows chain place in
    let no_above : true ≡ not (stands_above rows chain place) =
    not_true (stands_above rows chain place) (λ is.
    (let other = any_in (λ k. stands_in rows row k (length (rows_of rows k))) chain is in
    let spot = any_in (λ k. same_bits rows.columns (bit_at row) (bit_at (row_of rows other.0 k))) (length (rows_of rows other.0)) other.1.1 in
    let first = cell.0 in
    let lower = other.1.0 in
    let live : other.0 < length rows.chains = omega (arith, first, lower) in
    let same = same_stamp rows.columns (bit_at row) (bit_at (row_of rows other.0 spot.0)) spot.1.1 in
    seen_or_not (seen (stamp_at rows chain place)) new (ap seen same ∙ before other.0 spot.0 (live, spot.1.0) (inl lower)))) in
    let no_beside : true ≡ not (stands_in rows row chain place) =
    not_true (stands_in rows row chain place) (λ is.
    (let spot = any_in (λ k. same_bits rows.columns (bit_at row) (bit_at (row_of rows chain k))) place is in
    let within = cell.1 in
    let lower = spot.1.0 in
    let live : spot.0 < length (rows_of rows chain) = omega (arith, within, lower) in
    let same = same_stamp rows.columns (bit_at row) (bit_at (row_of rows chain spot.0)) spot.1.1 in
    seen_or_not (seen (stamp_at rows chain place)) new (ap seen same ∙ before chain spot.0 (cell.0, live) (inr (refl, lower))))) in
    (λ i. no_above i && no_beside i)

-- ---- stamps that are seen

kept : (b old : Bool) → old ≡ true → cond b true old ≡ true
kept true old is = refl
kept false old is = is

added : (b old : Bool) → b ≡ true → cond b true old ≡ true
added true old is = refl
added false old is = absurd cc

-- one more
pub seen_more : (rows : LoadRows) (chain place : ℕ) (old new : ℕ → Bool) (stamp : ℕ) → stamp ≡ stamp_at rows chain place → ((q : ℕ) → new q ≡ cond (eq_by_cmp nat_cmp stamp q) true (old q)) → AreSeen rows chain place old →
    AreSeen rows chain (place + 1) new
seen_more rows chain place old new stamp is updates before other spot cell (inl less) =
    let q = stamp_at rows other spot in updates q ∙ kept (eq_by_cmp nat_cmp stamp q) (old q) (before other spot cell (inl less))
seen_more rows chain place old new stamp is updates before other spot cell (inr at) = elim (cases_lt spot place) [
  | inl less ↦ (let q = stamp_at rows other spot in updates q ∙ kept (eq_by_cmp nat_cmp stamp q) (old q) (before other spot cell (inr (at.0, less))))
  | inr most ↦
      (let lower = at.1 in
      let here : spot ≡ place = omega (arith, most, lower) in
      let q = stamp_at rows other spot in
      let same : stamp ≡ q = is ∙ (λ i. stamp_at rows (sym at.0 i) (sym here i)) in
      updates q ∙ added (eq_by_cmp nat_cmp stamp q) (old q) (unsigned_tied stamp q ∙ ap (λ (n : ℕ). stamp == n) (sym same) ∙ same_number stamp))
]

-- after the last cell of a chain comes the next chain
pub seen_next : (rows : LoadRows) (chain places : ℕ) (seen : ℕ → Bool) → length (rows_of rows chain) ≤ places → AreSeen rows chain places seen → AreSeen rows (chain + 1) 0 seen
seen_next rows chain places seen past before other spot cell (inl less) = elim (cases_lt other chain) [
  | inl lower ↦ before other spot cell (inl lower)
  | inr most ↦
      (let here : other ≡ chain = omega (arith, most, less) in
      let within = subst (λ (k : ℕ). spot < length (rows_of rows k)) here cell.1 in
      before other spot cell (inr (here, omega (arith, within, past))))
]
seen_next rows chain places seen past before other spot cell (inr at) = let none = at.1 in absurd (omega (arith, none))

-- before the first cell there is none
pub seen_first : (rows : LoadRows) (seen : ℕ → Bool) → AreSeen rows 0 0 seen
seen_first rows seen other spot cell (inl less) = absurd (omega (arith, less))
seen_first rows seen other spot cell (inr at) = let none = at.1 in absurd (omega (arith, none))
