-- What the items of a list give, one after another, and how long that is.
use Rattle.std.proofs.Common.{◌≡◌, ℕ, zero, suc, ◌+◌, ◌≤◌, ◌*◌, List, [], ◌∷◌, ◌++◌, length, drop, map, flat_map, Option, None, Some, slice_get, ap, arith, length-append}
use Rattle.std.specs.List.{filter_map, cons_option, enumerate_from, range_with_len}
use Rattle.dft_base.proofs.ListLemmas.{drop_at}

-- what is left to give begins with what the next item gives
pub flat_at : {S T : Type 0} (f : ℕ × S → List T) (xs : List S) (k : ℕ) (x : S) → slice_get xs k ≡ Some x → flat_map f (enumerate_from k (drop k xs)) ≡ f (k, x) ++ flat_map f (enumerate_from (k + 1) (drop (k + 1) xs))
flat_at {S = S} f xs k x at = ap (λ (ys : List S). flat_map f (enumerate_from k ys)) (drop_at xs k x at)

pub map_at : {S T : Type 0} (f : S → T) (xs : List S) (k : ℕ) (x : S) → slice_get xs k ≡ Some x → map f (drop k xs) ≡ (f x ∷ []) ++ map f (drop (k + 1) xs)
map_at f xs k x at = ap (map f) (drop_at xs k x at)

-- ---- lengths

pub filter_shorter : {S T : Type 0} (f : S → Option T) (xs : List S) → length (filter_map f xs) ≤ length xs
filter_shorter f [] = omega arith
filter_shorter f (x ∷ xs) = by (f x) (filter_shorter f xs)
  where
    by : (o : Option _) → length (filter_map f xs) ≤ length xs → length (cons_option o (filter_map f xs)) ≤ suc (length xs)
    by None le = omega arith
    by (Some y) le = omega arith

-- what so many numbers give, where none gives more than a bound
pub flat_within : {T : Type 0} (f : ℕ → List T) (bound k m : ℕ) → ((i : ℕ) → length (f i) ≤ bound) → length (flat_map f (range_with_len k m)) ≤ m * bound
flat_within f bound k zero each = omega arith
flat_within f bound k (suc m) each =
    let size = length-append (f k) (flat_map f (range_with_len (k + 1) m)) in
    let rest = flat_within f bound (k + 1) m each in
    let more : suc m * bound ≡ bound + m * bound = omega arith in
    omega (arith, size, rest, more, each k)
