-- The names of a vector's bits.
use Rattle.std.proofs.Common.{◌≡◌, ℕ, zero, suc, ◌+◌, ◌-◌, ◌<◌, ◌≤◌, ◌^◌, Bool, true, false, List, [], ◌∷◌, ◌++◌, length, Option, None, Some, refl, sym, ◌∙◌, ap, subst, arith, slice_get, length-append, append_assoc}
use Rattle.std.specs.Prelude.{nat_le}
use Rattle.std.specs.Fmt.{decimal}
use Rattle.std.proofs.lemmas.Bool.Decides.{nat_tests}
use Rattle.std.proofs.lemmas.List.Elements.{All-append, All-cons, All-nil}
use Rattle.std.proofs.lemmas.Option.{same_Some, slice_get_within}
use Rattle.std.proofs.lemmas.Bool.{le-leb, lt-leb}
use Rattle.dft_base.specs.Name.{IsName}
use Rattle.dft_base.specs.declared.place.Range.{Range}
use Rattle.dft_base.proofs.TextLemmas.{IsPrinted, digits_printed}
use Rattle.dft_netlist.specs.Names.{IsShortRange, indices_of, going_up, going_down, bit_name, bit_names}
use Rattle.dft_netlist.proofs.Places.{each_made}

pub up_length : (from count : ℕ) → length (going_up from count) ≡ count
up_length from zero = refl
up_length from (suc count) = ap suc (up_length (suc from) count)

pub down_length : (from count : ℕ) → length (going_down from count) ≡ count
down_length from zero = refl
down_length from (suc count) = ap suc (down_length (from - 1) count)

up_at : (from count k : ℕ) → k < count → slice_get (going_up from count) k ≡ Some (from + k)
up_at from zero k lt = absurd (omega arith)
up_at from (suc count) zero lt = let e : from ≡ from + 0 = omega arith in ap Some e
up_at from (suc count) (suc k) lt = let e : suc from + k ≡ from + suc k = omega arith in up_at (suc from) count k (omega arith) ∙ ap Some e

down_at : (from count k : ℕ) → k < count → slice_get (going_down from count) k ≡ Some (from - k)
down_at from zero k lt = absurd (omega arith)
down_at from (suc count) zero lt = let e : from ≡ from - 0 = omega arith in ap Some e
down_at from (suc count) (suc k) lt = let e : from - 1 - k ≡ from - suc k = omega arith in down_at (from - 1) count k (omega arith) ∙ ap Some e

pub rising : (r : Range) → r.left ≤ r.right → indices_of r ≡ going_up r.left (suc (r.right - r.left))
rising r le = rw (le-leb r.left r.right le) refl

pub falling : (r : Range) → r.right < r.left → indices_of r ≡ going_down r.left (suc (r.left - r.right))
falling r lt = rw (lt-leb r.left r.right lt) refl

pub rising_at : (r : Range) (k : ℕ) → r.left ≤ r.right → k < length (indices_of r) → (r.left + k ≤ r.right) × (slice_get (indices_of r) k ≡ Some (r.left + k))
rising_at r k le lt =
    let count : length (indices_of r) ≡ suc (r.right - r.left) = ap (λ (xs : List ℕ). length xs) (rising r le) ∙ up_length r.left (suc (r.right - r.left)) in
    let within : k < suc (r.right - r.left) = omega (arith, count, lt) in
    (omega (arith, le, within), ap (λ (xs : List ℕ). slice_get xs k) (rising r le) ∙ up_at r.left (suc (r.right - r.left)) k within)

pub falling_at : (r : Range) (k : ℕ) → r.right < r.left → k < length (indices_of r) → (k ≤ r.left) × (slice_get (indices_of r) k ≡ Some (r.left - k))
falling_at r k gt lt =
    let count : length (indices_of r) ≡ suc (r.left - r.right) = ap (λ (xs : List ℕ). length xs) (falling r gt) ∙ down_length r.left (suc (r.left - r.right)) in
    let within : k < suc (r.left - r.right) = omega (arith, count, lt) in
    (omega (arith, gt, within), ap (λ (xs : List ℕ). slice_get xs k) (falling r gt) ∙ down_at r.left (suc (r.left - r.right)) k within)

pub cases_le : (m k : ℕ) → (t : Bool) → nat_le m k ≡ t → (P : Type 0) → (m ≤ k → P) → (k < m → P) → P
cases_le m k true is P f g = f (grind (arith, nat_tests))
cases_le m k false is P f g = g (grind (arith, nat_tests))

pub indices_length : (r : Range) → length (indices_of r) ≡ (r.left - r.right) + (r.right - r.left) + 1
indices_length r = cases_le r.left r.right (nat_le r.left r.right) refl _
    (λ le. let e : length (indices_of r) ≡ suc (r.right - r.left) = ap (λ (xs : List ℕ). length xs) (rising r le) ∙ up_length r.left (suc (r.right - r.left)) in omega (arith, e, le))
    (λ gt. let e : length (indices_of r) ≡ suc (r.left - r.right) = ap (λ (xs : List ℕ). length xs) (falling r gt) ∙ down_length r.left (suc (r.left - r.right)) in omega (arith, e, gt))

-- ---- a bit's printed name is a name

pub is_bit_name : (name : List ℕ) (index : ℕ) → index < 2 ^ 64 → IsName name → IsName (bit_name name index)
is_bit_name name index lt h = record {
  some = (let e = length-append (name ++ (91 ∷ decimal index)) (93 ∷ []) in omega (arith, e));
  each = All-append IsPrinted (name ++ (91 ∷ decimal index)) (93 ∷ [])
      (All-append IsPrinted name (91 ∷ decimal index) h.each (All-cons IsPrinted 91 (decimal index) (omega arith, omega arith) (digits_printed index lt)))
      (All-cons IsPrinted 93 [] (omega arith, omega arith) (All-nil IsPrinted));
}

pub index_short : (r : Range) (k i : ℕ) → IsShortRange (Some r) → slice_get (indices_of r) k ≡ Some i → i < 2 ^ 64
index_short r k i short at =
    let within : k < length (indices_of r) = slice_get_within (indices_of r) k i at in
    let left = short.0 in
    let right = short.1 in
    cases_le r.left r.right (nat_le r.left r.right) refl (i < 2 ^ 64)
    (λ le. (let up = rising_at r k le within in let same : i ≡ r.left + k = same_Some i (r.left + k) (sym at ∙ up.1) in let top = up.0 in omega (arith, same, top, right)))
    (λ gt. (let down = falling_at r k gt within in let same : i ≡ r.left - k = same_Some i (r.left - k) (sym at ∙ down.1) in omega (arith, same, left)))

pub bits_are_names : (name : List ℕ) (range : Option Range) → IsName name → IsShortRange range → (k : ℕ) (q : List ℕ) → slice_get (bit_names name range) k ≡ Some q → IsName q
bits_are_names name None is short zero q at = subst IsName (same_Some name q at) is
bits_are_names name None is short (suc k) q at = absurd (cc)
bits_are_names name (Some r) is short k q at = each_made IsName (bit_name name) (indices_of r) (λ j i there. is_bit_name name i (index_short r j i short there) is) k q at

pub regroup : (name : List ℕ) (index : ℕ) → ((name ++ 91 ∷ []) ++ decimal index) ++ 93 ∷ [] ≡ bit_name name index
regroup name index = ap (λ xs. xs ++ 93 ∷ []) (append_assoc name (91 ∷ []) (decimal index))
