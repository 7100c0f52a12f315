-- Rows are added to a trial: it means what it meant.
use Rattle.std.proofs.Common.{ℕ, Bool, true, false, List, ◌≡◌, ◌+◌, ◌<◌, ◌≤◌, length, refl, sym, ap, subst, arith, ◌∙◌, ◌⊎◌, inl, inr, Option, Some}
use Rattle.std.proofs.lemmas.Bool.{cases_lt}
use Rattle.dft_base.specs.Solutions.{xor, bit_at, Equation, equation_at, odd_at, odd_bits}
use Rattle.dft_gf2.specs.Rows.{row_at, place_at, IsLedBy, IsAdded, IsSumRow, Means, IsReduced, IsCleared, IsNew}
use Rattle.dft_gf2.specs.declared.row.Row.{Row}
use Rattle.dft_gf2.proofs.Sums.{sum_add_left}
use Rattle.dft_gf2.proofs.Restorations.{odd, odd_same}

pub reduced_none : (rows : List Row) (places : List (Option ℕ)) (row : Row) → IsReduced rows places row row
reduced_none rows places row = record {
  set_size = refl;
  sums_size = refl;
  id_is = refl;
  later = λ j free h. h;
  means = λ kept set bit sums h. h;
}

pub reduced_both : (rows : List Row) (places : List (Option ℕ)) (old mid new : Row) → IsReduced rows places old mid → IsReduced rows places mid new → IsReduced rows places old new
reduced_both rows places old mid new first second = record {
  set_size = second.set_size ∙ first.set_size;
  sums_size = second.sums_size ∙ first.sums_size;
  id_is = second.id_is ∙ first.id_is;
  later = λ j free h. second.later j free (first.later j free h);
  means = λ kept set bit sums h. second.means kept set bit sums (first.means kept set bit sums h);
}

odd_add : (p q s : ℕ → Bool) (f : Equation → Bool) (es : List Equation) → ((j : ℕ) → s j ≡ xor (p j) (q j)) → odd s f es ≡ xor (odd p f es) (odd q f es)
odd_add p q s f es add = odd_same s (λ j. xor (p j) (q j)) f es (λ j less. add j) ∙ sum_add_left (length es) p q (λ j. f (equation_at es j))

xor_both : (a b r : Bool) → xor (xor a r) (xor b r) ≡ xor a b
xor_both = grind arith

-- a sum stays where one bit is added on both sides
added : (a b r s t : Bool) → s ≡ xor a r → t ≡ xor b r → xor s t ≡ xor a b
added a b r s t e h = (λ i. xor (e i) (h i)) ∙ xor_both a b r

means_added : (n : ℕ) (kept : List Equation) (old other new : Row) (set : List Bool) (bit : Bool) → IsAdded old other new → IsSumRow n kept other → Means n kept old set bit → Means n kept new set bit
means_added n kept old other new set bit add sum means = (
  λ c less. means.0 c less ∙ sym (added (bit_at old.set c) (odd_at (bit_at old.sums) kept c) (bit_at other.set c) (bit_at new.set c) (odd_at (bit_at new.sums) kept c)
      (add.set c) (both (λ (e : Equation). bit_at e.row c) ∙ ap (xor (odd_at (bit_at old.sums) kept c)) (sym (sum.0 c less)))),
  means.1 ∙ sym (added old.bit (odd_bits (bit_at old.sums) kept) other.bit new.bit (odd_bits (bit_at new.sums) kept)
      add.bit_is (both (λ (e : Equation). e.bit) ∙ ap (xor (odd_bits (bit_at old.sums) kept)) (sym sum.1))),
) where
  both : (f : Equation → Bool) → odd (bit_at new.sums) f kept ≡ xor (odd (bit_at old.sums) f kept) (odd (bit_at other.sums) f kept)
  both f = odd_add (bit_at old.sums) (bit_at other.sums) (bit_at new.sums) f kept add.sums

xor_falses : (a b c : Bool) → c ≡ xor a b → a ≡ false → b ≡ false → c ≡ false
xor_falses = grind arith

xor_trues : (a b c : Bool) → c ≡ xor a b → a ≡ true → b ≡ true → c ≡ false
xor_trues = grind arith

-- the row that a column leads is added
pub reduced_added : (rows : List Row) (places : List (Option ℕ)) (column i : ℕ) (old other new : Row) → place_at places column ≡ Some i → other ≡ row_at rows i →
    IsAdded old other new → IsReduced rows places old new
reduced_added rows places column i old other new is same add = record {
  set_size = add.set_size;
  sums_size = add.sums_size;
  id_is = add.id_is;
  later = λ j free h. xor_falses (bit_at old.sums j) (bit_at other.sums j) (bit_at new.sums j) (add.sums j) h (ap (λ (r : Row). bit_at r.sums j) same ∙ free column i is);
  means = λ kept set bit sums h. (let sum : IsSumRow (length places) kept other = rw same (sums column i is) in means_added (length places) kept old other new set bit add sum h);
}

pub cleared_added : (rows : List Row) (places : List (Option ℕ)) (column i : ℕ) (old other new : Row) → other ≡ row_at rows i → IsLedBy (row_at rows i) column →
    bit_at old.set column ≡ true → IsAdded old other new → IsCleared places column old new true
cleared_added rows places column i old other new same led here add = (
  xor_trues (bit_at old.set column) (bit_at other.set column) (bit_at new.set column) (add.set column) here (ap (λ (r : Row). bit_at r.set column) same ∙ led.0),
  λ d above clear. xor_falses (bit_at old.set d) (bit_at other.set d) (bit_at new.set d) (add.set d) clear (ap (λ (r : Row). bit_at r.set d) same ∙ led.1 d above),
)

-- a turn clears a column more from the end on: the trial's last column is before those that were clear
pub last_before : (n turn c : ℕ) (row : Row) → ((d : ℕ) → n ≤ d + turn → bit_at row.set d ≡ false) → bit_at row.set c ≡ true → c + turn < n
last_before n turn c row clear one = at (cases_lt (c + turn) n) where
  at : (c + turn < n) ⊎ (n ≤ c + turn) → c + turn < n
  at (inl less) = less
  at (inr past) = let none = clear c past in absurd cc

pub cleared_more : (places : List (Option ℕ)) (n turn c : ℕ) (old new : Row) → c + turn < n → IsLedBy old c → IsCleared places c old new true →
    (d : ℕ) → n ≤ d + (turn + 1) → bit_at new.set d ≡ false
cleared_more places n turn c old new before led cleared d from = at (cases_lt c d) where
  at : (c < d) ⊎ (d ≤ c) → bit_at new.set d ≡ false
  at (inl above) = cleared.1 d above (led.1 d above)
  at (inr here) = let same : d ≡ c = omega arith in ap (bit_at new.set) same ∙ cleared.0

-- a column that leads no row is new
pub new_of : (places : List (Option ℕ)) (c : ℕ) (old new : Row) → c < length places → IsLedBy old c → IsCleared places c old new false → IsNew places new c
new_of places c old new inside led cleared = (inside, cleared.1, subst (λ (r : Row). IsLedBy r c) (sym cleared.2) led)
