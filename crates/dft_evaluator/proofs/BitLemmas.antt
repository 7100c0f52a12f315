-- Words of one bit, and a bit that is written.
use Rattle.std.proofs.Common.{ℕ, Bool, true, false, ◌≡◌, ◌≢◌, ◌<◌, ◌*◌, ◌/◌, ◌%◌, ◌^◌, ◌⊎◌, inl, inr, List, length, get_or, refl, sym, ap, subst, arith, ◌∙◌, get_or-set_other, get_or-set_same}
use Rattle.std.specs.Prelude.{if◌then◌else◌, ◌==◌, ◌&&◌, ◌||◌, slice_set, bit_and, replicate}
use Rattle.std.specs.Int.{bit_at as bit_of_word, bit_not, w64}
use Rattle.std.proofs.lemmas.Bool.{cases_eq}
use Rattle.std.proofs.lemmas.Bool.Decides.{nat_tests}
use Rattle.std.proofs.lemmas.Nat.Bits.{bit_at-zero, bit_at_ones, bit_at_clear_same, bit_at_clear_other}
use Rattle.std.proofs.lemmas.List.{get_or-replicate}
use Rattle.dft_base.specs.declared.tri.Tri.{Tri}
use Rattle.dft_base.specs.declared.tri.Tri.TheVariants.{Zero, One, Unknown}
use Rattle.dft_base.specs.Packed.{packed_bit}
use Rattle.dft_lanes.specs.declared.wide.Wide.{Wide}
use Rattle.dft_lanes.specs.Choices.{can}
use Rattle.dft_evaluator.specs.Wides.{may, value_of, value_in, unknown_wide, IsWide}
use Rattle.dft_evaluator.proofs.WideLemmas.{value_of_may}

words_at : (w p i : ℕ) → p / 64 < 8 → packed_bit (replicate 8 w) p ≡ (bit_of_word w (p % 64) == 1)
unfolding packed_bit
words_at w p i within = ap (λ (v : ℕ). bit_of_word v (p % 64) == 1) (get_or-replicate 8 (p / 64) w 0 within)

ones_at : (p : ℕ) → p < 512 → packed_bit (replicate 8 18446744073709551615) p ≡ true
ones_at p less = words_at 18446744073709551615 p 0 (omega arith) ∙ ap (λ (v : ℕ). v == 1) (bit_at_ones 64 (p % 64) (omega arith))

zeros_at : (p : ℕ) → p < 512 → packed_bit (replicate 8 0) p ≡ false
zeros_at p less = words_at 0 p 0 (omega arith) ∙ ap (λ (v : ℕ). v == 1) (bit_at-zero (p % 64))

-- ---- a net by its words

can_case : (w : Wide) (t : Tri) (p : ℕ) (v : Bool) → packed_bit w.can_zero p ≡ may t false → packed_bit w.can_one p ≡ may t true → can w p v ≡ may t v
can_case w t p true zero one = one
can_case w t p false zero one = zero

pub wide_by : (w : Wide) (values : ℕ → Tri) → ((p : ℕ) → p < 512 → packed_bit w.can_zero p ≡ may (values p) false) → ((p : ℕ) → p < 512 → packed_bit w.can_one p ≡ may (values p) true) → IsWide w values
wide_by w values zero one = record { each = λ p v less. can_case w (values p) p v (zero p less) (one p less) }

pub all_zero : IsWide (record { can_zero = replicate 8 18446744073709551615; can_one = replicate 8 0 }) (λ p. Zero)
all_zero = wide_by _ (λ p. Zero) ones_at zeros_at

pub all_one : IsWide (record { can_zero = replicate 8 0; can_one = replicate 8 18446744073709551615 }) (λ p. One)
all_one = wide_by _ (λ p. One) zeros_at ones_at

pub all_unknown : IsWide unknown_wide (λ p. Unknown)
all_unknown = wide_by _ (λ p. Unknown) ones_at ones_at

pub same_value : (w : Wide) (t u : Tri) → u ≡ t → IsWide w (λ p. t) → IsWide w (λ p. u)
same_value w t u e is = subst (λ (x : Tri). IsWide w (λ p. x)) (sym e) is

-- ---- a bit that is written

cleared_bit : (w : ℕ) (place k : ℕ) → (k % 64 ≡ place % 64) ⊎ (k % 64 ≢ place % 64) → k / 64 ≡ place / 64
    → (bit_of_word (bit_and w (bit_not w64 (1 * 2 ^ (place % 64) % 2 ^ 64))) (k % 64) == 1) ≡ (if k == place then false else (bit_of_word w (k % 64) == 1))
cleared_bit w place k (inl same) word =
    let here : (k == place) ≡ true = grind (arith, nat_tests) in
    ap (λ (i : ℕ). bit_of_word (bit_and w (bit_not w64 (1 * 2 ^ (place % 64) % 2 ^ 64))) i == 1) same
    ∙ ap (λ (v : ℕ). v == 1) (bit_at_clear_same w64 w (place % 64) (omega arith))
    ∙ ap (λ (e : Bool). if e then false else (bit_of_word w (k % 64) == 1)) (sym here)
cleared_bit w place k (inr other) word =
    let apart : (k == place) ≡ false = grind (arith, nat_tests) in
    ap (λ (v : ℕ). v == 1) (bit_at_clear_other w64 w (place % 64) (omega arith) (k % 64) (omega arith) other)
    ∙ ap (λ (e : Bool). if e then false else (bit_of_word w (k % 64) == 1)) (sym apart)

cleared_case : (words : List ℕ) (place k : ℕ) → place / 64 < length words → (k / 64 ≡ place / 64) ⊎ (k / 64 ≢ place / 64)
    → packed_bit (slice_set words (place / 64) (bit_and (get_or words (place / 64) 0) (bit_not w64 (1 * 2 ^ (place % 64) % 2 ^ 64)))) k ≡ (if k == place then false else packed_bit words k)
unfolding packed_bit
cleared_case words place k within (inl same) =
    let v = bit_and (get_or words (place / 64) 0) (bit_not w64 (1 * 2 ^ (place % 64) % 2 ^ 64)) in
    ap (λ (j : ℕ). bit_of_word (get_or (slice_set words (place / 64) v) j 0) (k % 64) == 1) same
    ∙ ap (λ (w : ℕ). bit_of_word w (k % 64) == 1) (get_or-set_same words (place / 64) v 0 within)
    ∙ cleared_bit (get_or words (place / 64) 0) place k (cases_eq (k % 64) (place % 64)) same
    ∙ ap (λ (j : ℕ). if k == place then false else (bit_of_word (get_or words j 0) (k % 64) == 1)) (sym same)
cleared_case words place k within (inr other) =
    let v = bit_and (get_or words (place / 64) 0) (bit_not w64 (1 * 2 ^ (place % 64) % 2 ^ 64)) in
    let apart : (k == place) ≡ false = grind (arith, nat_tests) in
    ap (λ (w : ℕ). bit_of_word w (k % 64) == 1) (get_or-set_other words (place / 64) (k / 64) v 0 other)
    ∙ ap (λ (e : Bool). if e then false else (bit_of_word (get_or words (k / 64) 0) (k % 64) == 1)) (sym apart)

pub cleared : (words : List ℕ) (place k : ℕ) → place / 64 < length words
    → packed_bit (slice_set words (place / 64) (bit_and (get_or words (place / 64) 0) (bit_not w64 (1 * 2 ^ (place % 64) % 2 ^ 64)))) k ≡ (if k == place then false else packed_bit words k)
cleared words place k within = cleared_case words place k within (cases_eq (k / 64) (place / 64))

pub set : (a e : Bool) → a || (e && true) ≡ (if e then true else a)
set true true = refl
set true false = refl
set false true = refl
set false false = refl

-- ---- a value that is written

written_value : (value : Tri) (e z o : Bool) → value_of (if e then may value false else z) (if e then may value true else o) ≡ (if e then value else value_of z o)
written_value value false z o = refl
written_value value true z o = value_of_may value

pub value_written : (old new : Wide) (place : ℕ) (value : Tri) → ((k : ℕ) → packed_bit new.can_zero k ≡ (if k == place then may value false else packed_bit old.can_zero k))
    → ((k : ℕ) → packed_bit new.can_one k ≡ (if k == place then may value true else packed_bit old.can_one k))
    → (p : ℕ) → value_in new p ≡ (if p == place then value else value_in old p)
value_written old new place value zero one p = (λ i. value_of (zero p i) (one p i)) ∙ written_value value (p == place) (packed_bit old.can_zero p) (packed_bit old.can_one p)

may_written : (value old : Tri) (e b : Bool) (v : Bool) → b ≡ may old v → (if e then may value v else b) ≡ may (if e then value else old) v
may_written value old true b v is = refl
may_written value old false b v is = is

pub wide_written : (old new : Wide) (place : ℕ) (value : Tri) → ((k : ℕ) → packed_bit new.can_zero k ≡ (if k == place then may value false else packed_bit old.can_zero k))
    → ((k : ℕ) → packed_bit new.can_one k ≡ (if k == place then may value true else packed_bit old.can_one k))
    → IsWide old (value_in old) → IsWide new (value_in new)
wide_written old new place value zero one is =
    wide_by new (value_in new)
    (λ p less. zero p ∙ may_written value (value_in old p) (p == place) (packed_bit old.can_zero p) false (is.each p false less) ∙ ap (λ (t : Tri). may t false) (sym (value_written old new place value zero one p)))
    (λ p less. one p ∙ may_written value (value_in old p) (p == place) (packed_bit old.can_one p) true (is.each p true less) ∙ ap (λ (t : Tri). may t true) (sym (value_written old new place value zero one p)))
