-- Rows of packed bits: a bit that is written, and a row as the list of its bits.
use Rattle.std.proofs.Common.{ℕ, Bool, true, false, ◌≡◌, ◌≢◌, ◌<◌, ◌≤◌, ◌+◌, ◌*◌, ◌-◌, ◌/◌, ◌%◌, ◌^◌, ◌⊎◌, inl, inr, List, length, get_or, refl, sym, ap, arith, ◌∙◌, get_or-set_other, get_or-set_same}
use Rattle.std.specs.Prelude.{◌&&◌, ◌||◌, ◌==◌, slice_set, bit_and, bit_or, bit_xor}
use Rattle.std.specs.Int.{bit_at as bit_of_word, w64}
use Rattle.std.specs.Simd.Lanes.{zip2}
use Rattle.std.proofs.lemmas.Bool.{cases_lt, cases_eq, and_left}
use Rattle.std.proofs.lemmas.Bool.Decides.{nat_tests}
use Rattle.std.proofs.lemmas.Nat.Bits.{bit_at-zero, bit_at_set_same, bit_at_set_other, shr_and_one}
use Rattle.std.proofs.lemmas.List.{get_or_past}
use Rattle.std.proofs.lemmas.List.FromFn.{get_or-map-range_with_len, length-map-range_with_len}
use Rattle.std.proofs.lemmas.Simd.{length-zip2}
use Rattle.dft_base.specs.Solutions.{xor, bit_at, sum_to, sum_over}
use Rattle.dft_base.specs.Packed.{packed_bit}
use Rattle.dft_base.proofs.SumLemmas.{sum_same, sum_zero}
use Rattle.dft_lanes.specs.Rows.{bits_of, IsPacked}
use Rattle.dft_lanes.specs.Sums.{odd_common}
use Rattle.dft_lanes.proofs.Holds.{packed_bit-xor}
use Rattle.dft_lanes.proofs.SumLemmas.{sum_split}

or_false : (a : Bool) → a ≡ a || false
or_false true = refl
or_false false = refl

or_true : (a : Bool) → true ≡ a || true
or_true true = refl
or_true false = refl

written_other : (words : List ℕ) (place k v : ℕ) → k / 64 ≢ place / 64 → packed_bit (slice_set words (place / 64) v) k ≡ packed_bit words k || ((k == place) && true)
unfolding packed_bit
written_other words place k v other =
    let apart : (k == place) ≡ false = grind (arith, nat_tests) in
    ap (λ (w : ℕ). bit_of_word w (k % 64) == 1) (get_or-set_other words (place / 64) (k / 64) v 0 other)
    ∙ or_false (bit_of_word (get_or words (k / 64) 0) (k % 64) == 1)
    ∙ ap (λ (e : Bool). (bit_of_word (get_or words (k / 64) 0) (k % 64) == 1) || (e && true)) (sym apart)

-- the bit itself, or another one of its word
written_bit : (w : ℕ) (place k : ℕ) → (k % 64 ≡ place % 64) ⊎ (k % 64 ≢ place % 64) → k / 64 ≡ place / 64
    → (bit_of_word (bit_or w (1 * 2 ^ (place % 64) % 2 ^ 64)) (k % 64) == 1) ≡ (bit_of_word w (k % 64) == 1) || ((k == place) && true)
written_bit w place k (inl same) word =
    let here : (k == place) ≡ true = grind (arith, nat_tests) in
    ap (λ (i : ℕ). bit_of_word (bit_or w (1 * 2 ^ (place % 64) % 2 ^ 64)) i == 1) same
    ∙ ap (λ (v : ℕ). v == 1) (bit_at_set_same w64 w (place % 64) (omega arith))
    ∙ or_true (bit_of_word w (k % 64) == 1)
    ∙ ap (λ (e : Bool). (bit_of_word w (k % 64) == 1) || (e && true)) (sym here)
written_bit w place k (inr other) word =
    let apart : (k == place) ≡ false = grind (arith, nat_tests) in
    ap (λ (v : ℕ). v == 1) (bit_at_set_other w64 w (place % 64) (omega arith) (k % 64) other)
    ∙ or_false (bit_of_word w (k % 64) == 1)
    ∙ ap (λ (e : Bool). (bit_of_word w (k % 64) == 1) || (e && true)) (sym apart)

written_case : (words : List ℕ) (place k : ℕ) → place / 64 < length words → (k / 64 ≡ place / 64) ⊎ (k / 64 ≢ place / 64)
    → packed_bit (slice_set words (place / 64) (bit_or (get_or words (place / 64) 0) (1 * 2 ^ (place % 64) % 2 ^ 64))) k ≡ packed_bit words k || ((k == place) && true)
unfolding packed_bit
written_case words place k within (inl same) =
    let v = bit_or (get_or words (place / 64) 0) (1 * 2 ^ (place % 64) % 2 ^ 64) in
    ap (λ (j : ℕ). bit_of_word (get_or (slice_set words (place / 64) v) j 0) (k % 64) == 1) same
    ∙ ap (λ (w : ℕ). bit_of_word w (k % 64) == 1) (get_or-set_same words (place / 64) v 0 within)
    ∙ written_bit (get_or words (place / 64) 0) place k (cases_eq (k % 64) (place % 64)) same
    ∙ ap (λ (j : ℕ). (bit_of_word (get_or words j 0) (k % 64) == 1) || ((k == place) && true)) (sym same)
written_case words place k within (inr other) = written_other words place k (bit_or (get_or words (place / 64) 0) (1 * 2 ^ (place % 64) % 2 ^ 64)) other

pub written : (words : List ℕ) (place k : ℕ) → place / 64 < length words
    → packed_bit (slice_set words (place / 64) (bit_or (get_or words (place / 64) 0) (1 * 2 ^ (place % 64) % 2 ^ 64))) k ≡ packed_bit words k || ((k == place) && true)
written words place k within = written_case words place k within (cases_eq (k / 64) (place / 64))

-- past the last word there is no bit
pub packed_bit-past : (words : List ℕ) (k : ℕ) → length words ≤ k / 64 → packed_bit words k ≡ false
unfolding packed_bit
packed_bit-past words k past = ap (λ (w : ℕ). bit_of_word w (k % 64) == 1) (get_or_past words (k / 64) 0 past) ∙ ap (λ (v : ℕ). v == 1) (bit_at-zero (k % 64))

pub packed_bit-zeros : (words : List ℕ) (k : ℕ) → ((i : ℕ) → get_or words i 0 ≡ 0) → packed_bit words k ≡ false
unfolding packed_bit
packed_bit-zeros words k zeros = ap (λ (w : ℕ). bit_of_word w (k % 64) == 1) (zeros (k / 64)) ∙ ap (λ (v : ℕ). v == 1) (bit_at-zero (k % 64))

bit_case : (words : List ℕ) (n k : ℕ) → (k < n) ⊎ (n ≤ k) → ((c : ℕ) → n ≤ c → packed_bit words c ≡ false) → bit_at (bits_of n words) k ≡ packed_bit words k
bit_case words n k (inl less) clear = get_or-map-range_with_len (packed_bit words) 0 n k k false less (omega arith)
bit_case words n k (inr past) clear =
    let size = length-map-range_with_len (packed_bit words) 0 n in
    get_or_past (bits_of n words) k false (omega arith) ∙ sym (clear k past)

-- the list of the first bits has each bit, where there is none past them
pub bits-at : (words : List ℕ) (n k : ℕ) → ((c : ℕ) → n ≤ c → packed_bit words c ≡ false) → bit_at (bits_of n words) k ≡ packed_bit words k
bits-at words n k = bit_case words n k (cases_lt k n)

pub length-bits_of : (n : ℕ) (words : List ℕ) → length (bits_of n words) ≡ n
length-bits_of n words = length-map-range_with_len (packed_bit words) 0 n

-- the sum of two rows is a row
pub sum_packed : (n : ℕ) (a b : List ℕ) → IsPacked n a → IsPacked n b → IsPacked n (zip2 bit_xor a b)
sum_packed n a b left right =
    let same : length a ≡ length b = left.size ∙ sym right.size in
    record {
      size = length-zip2 bit_xor a b same ∙ left.size;
      clear = λ c past. packed_bit-xor a b c same ∙ (λ t. xor (left.clear c past t) (right.clear c past t));
    }

pub sum_at : (n : ℕ) (a b : List ℕ) → IsPacked n a → IsPacked n b → (c : ℕ) → bit_at (bits_of n (zip2 bit_xor a b)) c ≡ xor (bit_at (bits_of n a) c) (bit_at (bits_of n b) c)
sum_at n a b left right c =
    bits-at (zip2 bit_xor a b) n c (sum_packed n a b left right).clear ∙ packed_bit-xor a b c (left.size ∙ sym right.size)
    ∙ sym (λ t. xor (bits-at a n c left.clear t) (bits-at b n c right.clear t))

top_case : (n : ℕ) (words : List ℕ) (top : ℕ) → IsPacked n words → packed_bit words top ≡ true → (top < n) ⊎ (n ≤ top) → top < n
top_case n words top packed one (inl less) = less
top_case n words top packed one (inr past) = let none = packed.clear top past in absurd cc

-- a bit that is 1 is in a column
pub top_within : (n : ℕ) (words : List ℕ) (top : ℕ) → IsPacked n words → packed_bit words top ≡ true → top < n
top_within n words top packed one = top_case n words top packed one (cases_lt top n)

-- a sum ends where the bits end
pub sum_short : (n m : ℕ) (f : ℕ → Bool) → n ≤ m → ((c : ℕ) → n ≤ c → f c ≡ false) → sum_to m f ≡ sum_to n f
sum_short n m f fits clear =
    let parts : m ≡ n + (m - n) = omega arith in
    ap (λ (k : ℕ). sum_to k f) parts ∙ sum_split n (m - n) f ∙ ap (λ (b : Bool). xor b (sum_to n f)) (sum_zero (m - n) (λ i. f (n + i)) (λ i less. clear (n + i) (omega arith)))

pub parity_sum : (n : ℕ) (a b : List ℕ) → IsPacked n a → IsPacked n b → odd_common a b ≡ sum_over n (bits_of n a) (bit_at (bits_of n b))
unfolding odd_common
parity_sum n a b left right =
    sum_short n (64 * length a) (λ c. packed_bit a c && packed_bit b c) (omega (arith, left.size)) (λ c past. and_left (packed_bit a c) (packed_bit b c) (left.clear c past))
    ∙ sum_same n (λ c. packed_bit a c && packed_bit b c) (λ c. bit_at (bits_of n a) c && bit_at (bits_of n b) c)
    (λ c less t. sym (bits-at a n c left.clear) t && sym (bits-at b n c right.clear) t)

-- a bit that is read
pub read : (words : List ℕ) (place : ℕ) → (bit_and (get_or words (place / 64) 0 / 2 ^ (place % 64)) 1 == 1) ≡ packed_bit words place
unfolding packed_bit
read words place = ap (λ (v : ℕ). v == 1) (shr_and_one (get_or words (place / 64) 0) (place % 64))
