-- Stored rows, each of which is as wide as its place, stand for rows that are all as wide.
use Rattle.std.proofs.Common.{ℕ, false, List, ◌≡◌, ◌<◌, ◌≤◌, length, sym, ap, arith, ◌∙◌, ◌⊎◌, inl, inr}
use Rattle.std.specs.Prelude.{slice_set, map}
use Rattle.std.proofs.lemmas.Bool.{cases_lt}
use Rattle.std.proofs.lemmas.List.{get_or-map, get_or_past, length-map, map-set, ext_get_or}
use Rattle.dft_base.specs.Solutions.{bit_at, xor}
use Rattle.dft_gf2.specs.Rows.{row_at, AreFitted, AreWide, IsAdded, IsCopied, IsWide, bits_to}
use Rattle.dft_gf2.specs.RowsShown.{widened}
use Rattle.dft_gf2.specs.declared.row.Row.{Row}
use Rattle.dft_gf2.proofs.Restorations.{length_bits, bits_at}

shown_case : (n : ℕ) (row : Row) (j : ℕ) → (j < n) ⊎ (n ≤ j) → length row.sums ≤ n → bit_at (widened n row).sums j ≡ bit_at row.sums j
shown_case n row j (inl less) fits = bits_at n (bit_at row.sums) j less
shown_case n row j (inr past) fits =
    let size = length_bits n (bit_at row.sums) in
    get_or_past (widened n row).sums j false (omega arith) ∙ sym (get_or_past row.sums j false (omega arith))

-- a row that is widened sums what it did
pub shown_sums : (n : ℕ) (row : Row) (j : ℕ) → length row.sums ≤ n → bit_at (widened n row).sums j ≡ bit_at row.sums j
shown_sums n row j = shown_case n row j (cases_lt j n)

pub shown_at : (n : ℕ) (rows : List Row) (i : ℕ) → i < length rows → row_at (map (widened n) rows) i ≡ widened n (row_at rows i)
shown_at n rows i less = get_or-map (widened n) rows i _ _ less

pub shown_wide : (n : ℕ) (rows : List Row) → AreFitted n rows → AreWide n (map (widened n) rows)
shown_wide n rows fitted = (
  length-map rows (widened n) ∙ fitted.0,
  λ i less.
      let at : row_at (map (widened n) rows) i ≡ widened n (row_at rows i) = shown_at n rows i (omega (arith, fitted.0)) in
      (ap (λ (r : Row). length r.set) at ∙ (fitted.1 i less).0, ap (λ (r : Row). length r.sums) at ∙ length_bits n (bit_at (row_at rows i).sums)),
)

-- adding what is stored is adding what it stands for
pub shown_added : (n : ℕ) (old other row new : Row) → length row.sums ≤ n → other ≡ widened n row → IsAdded old row new → IsAdded old other new
shown_added n old other row new fits same add = rw same (record {
  set = add.set;
  bit_is = add.bit_is;
  sums = λ j. add.sums j ∙ (λ t. xor (bit_at old.sums j) (sym (shown_sums n row j fits) t));
  set_size = add.set_size;
  sums_size = add.sums_size;
  id_is = add.id_is;
})

-- what is stored of a row stands for it
pub shown_copied : (n : ℕ) (old row new : Row) → IsWide n row → length old.set ≡ n → IsCopied old row new → widened n new ≡ row
shown_copied n old row new wide size copied =
    let set : new.set ≡ row.set = ext_get_or false new.set row.set (copied.set_size ∙ size ∙ sym wide.0) (λ c less. copied.set c) in
    let sums : bits_to n (bit_at new.sums) ≡ row.sums =
    ext_get_or false (bits_to n (bit_at new.sums)) row.sums (length_bits n (bit_at new.sums) ∙ sym wide.1)
    (λ j less. (let long = length_bits n (bit_at new.sums) in bits_at n (bit_at new.sums) j (omega arith)) ∙ copied.sums j) in
    λ t. record { set = set t; bit = copied.bit_is t; sums = sums t; id = copied.id_is t }

pub shown_put : (n : ℕ) (rows : List Row) (place : ℕ) (row new : Row) → widened n new ≡ row → map (widened n) (slice_set rows place new) ≡ slice_set (map (widened n) rows) place row
shown_put n rows place row new same = map-set (widened n) rows place new ∙ ap (slice_set (map (widened n) rows) place) same
