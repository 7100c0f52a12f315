-- What the test of load equations finds.
use Rattle.std.proofs.Common.{◌≡◌, ℕ, zero, suc, ◌+◌, ◌<◌, ◌⊎◌, inl, inr, Bool, true, false, not, ◌&&◌, ◌||◌, List, length, refl, sym, ◌∙◌, ap, subst, arith}
use Rattle.std.specs.List.{list_all, list_any, range_with_len}
use Rattle.std.proofs.lemmas.Bool.{cases_lt, or_parts}
use Rattle.dft_base.specs.Solutions.{bit_at, xor}
use Rattle.dft_base.proofs.BitLemmas.{and_first, and_second, bit_same, not_itself, not_of}
use Rattle.dft_equations.specs.LoadRows.{AreWide, IsCell, LoadRows, row_of, rows_of}
use Rattle.dft_configure.specs.Good.{AreGood, HasVariable, has_bits, is_good, is_good_cell, is_good_chain, same_bits, stands_above, stands_in}
use Rattle.dft_configure.proofs.PairLemmas.{differ_at}

-- ---- ranges

all_from : (p : ℕ → Bool) (from n k : ℕ) → list_all p (range_with_len from n) ≡ true → k < n → p (from + k) ≡ true
all_from p from zero k all less = absurd (omega arith)
all_from p from (suc n) zero all less = let here : from ≡ from + 0 = omega arith in ap p (sym here) ∙ and_first (p from) (list_all p (range_with_len (from + 1) n)) all
all_from p from (suc n) (suc k) all less =
    let here : from + 1 + k ≡ from + suc k = omega arith in ap p (sym here) ∙ all_from p (from + 1) n k (and_second (p from) (list_all p (range_with_len (from + 1) n)) all) (omega arith)

pub all_in : (p : ℕ → Bool) (n k : ℕ) → list_all p (range_with_len 0 n) ≡ true → k < n → p k ≡ true
all_in p n k all less = let here : 0 + k ≡ k = omega arith in ap p (sym here) ∙ all_from p 0 n k all less

any_step : (b : Bool) (p : ℕ → Bool) (from n : ℕ) → p from ≡ b → (b || list_any p (range_with_len (from + 1) n)) ≡ true → (list_any p (range_with_len (from + 1) n) ≡ true → (k : ℕ) × ((k < n) × (p (from + 1 + k) ≡ true))) →
    (k : ℕ) × ((k < suc n) × (p (from + k) ≡ true))
any_step true p from n here any rest = let at : from + 0 ≡ from = omega arith in (zero, (omega arith, ap p at ∙ here))
any_step false p from n here any rest =
    let later = rest any in
    let at : from + suc later.0 ≡ from + 1 + later.0 = omega arith in
    let less : suc later.0 < suc n = omega (arith, later.1.0) in
    (suc later.0, (less, ap p at ∙ later.1.1))

any_from : (p : ℕ → Bool) (from n : ℕ) → list_any p (range_with_len from n) ≡ true → (k : ℕ) × ((k < n) × (p (from + k) ≡ true))
any_from p from zero any = absurd cc
any_from p from (suc n) any = any_step (p from) p from n refl any (any_from p (from + 1) n)

pub any_in : (p : ℕ → Bool) (n : ℕ) → list_any p (range_with_len 0 n) ≡ true → (k : ℕ) × ((k < n) × (p k ≡ true))
any_in p n any = let at = any_from p 0 n any in let here : at.0 ≡ 0 + at.0 = omega arith in (at.0, (at.1.0, ap p here ∙ at.1.1))

-- one number that passes is enough
pub some_passes : (p : ℕ → Bool) (n k : ℕ) → k < n → p k ≡ true → list_any p (range_with_len 0 n) ≡ true
some_passes p n k less is = by (list_any p (range_with_len 0 n)) refl
  where
    none_from : (from m j : ℕ) → list_any p (range_with_len from m) ≡ false → j < m → p (from + j) ≡ false
    none_from from zero j none below = absurd (omega arith)
    none_from from (suc m) zero none below = let here : from + 0 ≡ from = omega arith in ap p here ∙ (or_parts (p from) (list_any p (range_with_len (from + 1) m)) none).0
    none_from from (suc m) (suc j) none below = let here : from + suc j ≡ from + 1 + j = omega arith in ap p here ∙ none_from (from + 1) m j (or_parts (p from) (list_any p (range_with_len (from + 1) m)) none).1 (omega arith)

    by : (b : Bool) → list_any p (range_with_len 0 n) ≡ b → list_any p (range_with_len 0 n) ≡ true
    by true is_b = is_b
    by false is_b = let here : 0 + k ≡ k = omega arith in let no : p k ≡ false = ap p (sym here) ∙ none_from 0 n k is_b less in absurd cc

-- ---- rows

all_pass : (p : ℕ → Bool) (from n : ℕ) → ((k : ℕ) → p k ≡ true) → list_all p (range_with_len from n) ≡ true
all_pass p from zero each = refl
all_pass p from (suc n) each = (λ i. each from i && all_pass p (from + 1) n each i)

same_rows : (columns : ℕ) (row other : List Bool) → row ≡ other → same_bits columns (bit_at row) (bit_at other) ≡ true
same_rows columns row other is =
    ap (λ (r : List Bool). same_bits columns (bit_at row) (bit_at r)) (sym is) ∙ all_pass (λ column. not (xor (bit_at row column) (bit_at row column))) 0 columns (λ k. bit_same (bit_at row k))

-- ---- cells

good_cell : (rows : LoadRows) (chain place : ℕ) → is_good rows ≡ true → IsCell rows chain place → is_good_cell rows chain place ≡ true
good_cell rows chain place good cell =
    all_in (is_good_cell rows chain) (length (rows_of rows chain)) place (all_in (is_good_chain rows) (length rows.chains) chain good cell.0) cell.1

has_some : (rows : LoadRows) (chain place : ℕ) → is_good rows ≡ true → IsCell rows chain place → HasVariable rows.columns (row_of rows chain place)
has_some rows chain place good cell = any_in (bit_at (row_of rows chain place)) rows.columns (and_first (has_bits rows.columns (bit_at (row_of rows chain place))) _ (good_cell rows chain place good cell))

-- an earlier cell has another load equation
above : (rows : LoadRows) (chain place other spot : ℕ) → is_good rows ≡ true → IsCell rows chain place → IsCell rows other spot → other < chain → row_of rows chain place ≡ row_of rows other spot → ⊥
above rows chain place other spot good cell too less is =
    let row = row_of rows chain place in
    let rest = and_second (has_bits rows.columns (bit_at row)) _ (good_cell rows chain place good cell) in
    let here = some_passes (λ k. same_bits rows.columns (bit_at row) (bit_at (row_of rows other k))) (length (rows_of rows other)) spot too.1 (same_rows rows.columns row (row_of rows other spot) is) in
    not_itself (stands_above rows chain place) (and_first (not (stands_above rows chain place)) _ rest) (some_passes (λ k. stands_in rows row k (length (rows_of rows k))) chain other less here)

beside : (rows : LoadRows) (chain place spot : ℕ) → is_good rows ≡ true → IsCell rows chain place → spot < place → row_of rows chain place ≡ row_of rows chain spot → ⊥
beside rows chain place spot good cell less is =
    let row = row_of rows chain place in
    let rest = and_second (has_bits rows.columns (bit_at row)) _ (good_cell rows chain place good cell) in
    not_itself (stands_in rows row chain place) (and_second (not (stands_above rows chain place)) _ rest)
    (some_passes (λ k. same_bits rows.columns (bit_at row) (bit_at (row_of rows chain k))) place spot less (same_rows rows.columns row (row_of rows chain spot) is))

order : (m n : ℕ) → (m < n) ⊎ ((n < m) ⊎ (m ≡ n))
order m n = elim (cases_lt m n) [ inl less ↦ inl less | inr most ↦ elim (cases_lt n m) [ inl more ↦ inr (inl more) | inr same ↦ inr (inr (omega arith)) ] ]

same_chain : (rows : LoadRows) (chain place spot : ℕ) → is_good rows ≡ true → IsCell rows chain place → IsCell rows chain spot → row_of rows chain place ≡ row_of rows chain spot → place ≡ spot
same_chain rows chain place spot good cell too is = elim (order spot place) [
  | inl less ↦ absurd (beside rows chain place spot good cell less is)
  | inr other ↦ elim other [ inl more ↦ absurd (beside rows chain spot place good too more (sym is)) | inr same ↦ sym same ]
]

differ : (rows : LoadRows) (chain place other spot : ℕ) → is_good rows ≡ true → IsCell rows chain place → IsCell rows other spot → row_of rows chain place ≡ row_of rows other spot → (chain ≡ other) × (place ≡ spot)
differ rows chain place other spot good cell too is = elim (order other chain) [
  | inl less ↦ absurd (above rows chain place other spot good cell too less is)
  | inr rest ↦ elim rest [
    | inl more ↦ absurd (above rows other spot chain place good too cell more (sym is))
    | inr same ↦ (sym same, same_chain rows chain place spot good cell (subst (λ (k : ℕ). IsCell rows k spot) same too) (is ∙ ap (λ (k : ℕ). row_of rows k spot) same))
  ]
]

-- where the test passes, no load equation is empty and no two are the same
pub tested_good : (rows : LoadRows) → is_good rows ≡ true → AreGood rows
tested_good rows good = record { some = λ chain place cell. has_some rows chain place good cell; differ = λ chain place other spot cell too is. differ rows chain place other spot good cell too is }

-- ---- and the other way round

below_pass : (p : ℕ → Bool) (from n : ℕ) → ((k : ℕ) → k < n → p (from + k) ≡ true) → list_all p (range_with_len from n) ≡ true
below_pass p from zero each = refl
below_pass p from (suc n) each =
    let here : from ≡ from + 0 = omega arith in
    let first : p from ≡ true = ap p here ∙ each 0 (omega arith) in
    let rest = below_pass p (from + 1) n (λ k less. (let at : from + 1 + k ≡ from + suc k = omega arith in ap p at ∙ each (suc k) (omega arith))) in
    (λ i. first i && rest i)

pub all_below : (p : ℕ → Bool) (n : ℕ) → ((k : ℕ) → k < n → p k ≡ true) → list_all p (range_with_len 0 n) ≡ true
all_below p n each = below_pass p 0 n (λ k less. (let at : 0 + k ≡ k = omega arith in ap p at ∙ each k less))

-- two cells whose load equations differ do not pass for the same
apart_rows : (rows : LoadRows) (chain place other spot : ℕ) → AreWide rows.columns rows.chains → IsCell rows chain place → IsCell rows other spot → (row_of rows chain place ≡ row_of rows other spot → ⊥) →
    same_bits rows.columns (bit_at (row_of rows chain place)) (bit_at (row_of rows other spot)) ≡ true → ⊥
apart_rows rows chain place other spot wide cell too apart same =
    let width : length (row_of rows chain place) ≡ rows.columns = wide chain place cell.0 cell.1 in
    let second : length (row_of rows other spot) ≡ rows.columns = wide other spot too.0 too.1 in
    let at = differ_at (row_of rows chain place) (row_of rows other spot) (width ∙ sym second) apart in
    let less : at.0 < rows.columns = omega (arith, width, at.1.0) in
    not_itself (xor (bit_at (row_of rows chain place) at.0) (bit_at (row_of rows other spot) at.0)) (all_in (λ column. not (xor (bit_at (row_of rows chain place) column) (bit_at (row_of rows other spot) column))) rows.columns at.0 same less) at.1.1

cell_tested : (rows : LoadRows) (chain place : ℕ) → AreWide rows.columns rows.chains → AreGood rows → IsCell rows chain place → is_good_cell rows chain place ≡ true
cell_tested rows chain place wide good cell =
    let row = row_of rows chain place in
    let some = good.some chain place cell in
    let there = some_passes (bit_at row) rows.columns some.0 some.1.0 some.1.1 in
    let no_above : not (stands_above rows chain place) ≡ true =
    not_of (stands_above rows chain place) (λ is.
    (let other = any_in (λ k. stands_in rows row k (length (rows_of rows k))) chain is in
    let spot = any_in (λ k. same_bits rows.columns (bit_at row) (bit_at (row_of rows other.0 k))) (length (rows_of rows other.0)) other.1.1 in
    let first = cell.0 in
    let lower = other.1.0 in
    let live : other.0 < length rows.chains = omega (arith, first, lower) in
    apart_rows rows chain place other.0 spot.0 wide cell (live, spot.1.0) (λ e. (let same = (good.differ chain place other.0 spot.0 cell (live, spot.1.0) e).0 in absurd (omega (arith, same, lower)))) spot.1.1)) in
    let no_beside : not (stands_in rows row chain place) ≡ true =
    not_of (stands_in rows row chain place) (λ is.
    (let spot = any_in (λ k. same_bits rows.columns (bit_at row) (bit_at (row_of rows chain k))) place is in
    let within = cell.1 in
    let lower = spot.1.0 in
    let live : spot.0 < length (rows_of rows chain) = omega (arith, within, lower) in
    apart_rows rows chain place chain spot.0 wide cell (cell.0, live) (λ e. (let same = (good.differ chain place chain spot.0 cell (cell.0, live) e).1 in absurd (omega (arith, same, lower)))) spot.1.1)) in
    (λ i. there i && (no_above i && no_beside i))

pub good_tested : (rows : LoadRows) → AreWide rows.columns rows.chains → AreGood rows → is_good rows ≡ true
good_tested rows wide good =
    all_below (is_good_chain rows) (length rows.chains) (λ chain less. all_below (is_good_cell rows chain) (length (rows_of rows chain)) (λ place within. cell_tested rows chain place wide good (less, within)))
