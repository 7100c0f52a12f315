-- Packed bits as their list.
use Rattle.std.proofs.Common.{ℕ, Bool, true, false, ◌≡◌, ◌≢◌, ◌<◌, ◌⊎◌, inl, inr, List, length, replicate, sym, ap, subst, arith, ◌∙◌, length-set, get_or-set_same, get_or-set_other, Option, Some, None}
use Rattle.std.specs.Prelude.{◌&&◌, ◌||◌, ◌==◌, slice_set, bit_xor, if◌then◌else◌, MatchOption}
use Rattle.std.specs.Simd.Lanes.{zip2}
use Rattle.std.proofs.lemmas.Bool.{cases_lt, cases_eq}
use Rattle.std.proofs.lemmas.Bool.Decides.{nat_tests}
use Rattle.std.proofs.lemmas.List.{get_or-replicate, length-replicate, ext_get_or}
use Rattle.dft_base.specs.Solutions.{xor, bit_at, sum_over}
use Rattle.dft_base.specs.Packed.{packed_bit}
use Rattle.dft_base.proofs.ListLemmas.{zeros_case}
use Rattle.dft_lanes.specs.Rows.{bits_of, words_for, IsPacked}
use Rattle.dft_lanes.specs.Sums.{odd_common}
use Rattle.dft_lanes.proofs.RowLemmas.{bits-at, length-bits_of, packed_bit-zeros, sum_packed, sum_at, top_within, parity_sum}

-- the list has a bit for each place
pub size_of : (n : ℕ) (words : List ℕ) (bits : List Bool) → bits_of n words ≡ bits → length bits ≡ n
size_of n words bits is = sym (ap length is) ∙ length-bits_of n words

-- a bit of the list is the packed one
pub at : (n : ℕ) (words : List ℕ) (bits : List Bool) → IsPacked n words → bits_of n words ≡ bits → (k : ℕ) → bit_at bits k ≡ packed_bit words k
at n words bits packed is k = ap (λ (b : List Bool). bit_at b k) (sym is) ∙ bits-at words n k packed.clear

pub zero_at : (m k : ℕ) → packed_bit (replicate m 0) k ≡ false
zero_at m k = packed_bit-zeros (replicate m 0) k (λ i. zeros_case m i (cases_lt i m))

pub zeros_packed : (n m : ℕ) → m ≡ words_for n → IsPacked n (replicate m 0)
zeros_packed n m size = record { size = length-replicate {A = ℕ} m 0 ∙ size; clear = λ c past. zero_at m c }

pub zeros_listed : (n m : ℕ) → m ≡ words_for n → bits_of n (replicate m 0) ≡ replicate n false
zeros_listed n m size =
    ext_get_or false (bits_of n (replicate m 0)) (replicate n false) (length-bits_of n (replicate m 0) ∙ sym (length-replicate {A = Bool} n false))
    (λ k less. bits-at (replicate m 0) n k (zeros_packed n m size).clear ∙ zero_at m k ∙ sym (get_or-replicate n k false false (let long = length-bits_of n (replicate m 0) in omega arith)))

-- a bit was written
abbrev pub IsPut : List ℕ → ℕ → Bool → List ℕ → Type 0
IsPut words place bit new = (k : ℕ) → packed_bit new k ≡ packed_bit words k || ((k == place) && bit)

neither : (a b c : Bool) → a ≡ false → b ≡ false → a || (b && c) ≡ false
neither = grind arith

or_neither : (a b : Bool) → b ≡ false → a || (b && true) ≡ a
or_neither = grind arith

or_here : (a b : Bool) → b ≡ true → a || (b && true) ≡ true
or_here = grind arith

or_not : (a b : Bool) → a || (b && false) ≡ a
or_not = grind arith

pub put_packed : (n : ℕ) (words new : List ℕ) (place : ℕ) (bit : Bool) → IsPacked n words → place < n → length new ≡ length words → IsPut words place bit new → IsPacked n new
put_packed n words new place bit packed less size put = record {
  size = size ∙ packed.size;
  clear = λ k past. put k ∙ neither (packed_bit words k) (k == place) bit (packed.clear k past) (grind (arith, nat_tests));
}

put_at : (bits : List Bool) (place k : ℕ) → place < length bits → (k ≡ place) ⊎ (k ≢ place) → bit_at bits k || ((k == place) && true) ≡ bit_at (slice_set bits place true) k
put_at bits place k less (inl here) =
    let one : (k == place) ≡ true = grind (arith, nat_tests) in
    or_here (bit_at bits k) (k == place) one ∙ sym (get_or-set_same bits place true false less) ∙ ap (bit_at (slice_set bits place true)) (sym here)
put_at bits place k less (inr other) =
    let none : (k == place) ≡ false = grind (arith, nat_tests) in
    or_neither (bit_at bits k) (k == place) none ∙ sym (get_or-set_other bits place k true false other)

pub put_listed : (n : ℕ) (words new : List ℕ) (bits : List Bool) (place : ℕ) (bit : Bool) → IsPacked n words → bits_of n words ≡ bits → place < length bits → length new ≡ length words →
    IsPut words place bit new → bits_of n new ≡ (if bit then slice_set bits place true else bits)
put_listed n words new bits place true packed is less size put =
    let long : length bits ≡ n = size_of n words bits is in
    ext_get_or false (bits_of n new) (slice_set bits place true) (length-bits_of n new ∙ sym long ∙ sym (length-set bits place true))
    (λ k under. bits-at new n k (put_packed n words new place true packed (omega arith) size put).clear ∙ put k
    ∙ ap (λ (b : Bool). b || ((k == place) && true)) (sym (at n words bits packed is k)) ∙ put_at bits place k less (cases_eq k place))
put_listed n words new bits place false packed is less size put =
    let long : length bits ≡ n = size_of n words bits is in
    ext_get_or false (bits_of n new) bits (length-bits_of n new ∙ sym long)
    (λ k under. bits-at new n k (put_packed n words new place false packed (omega arith) size put).clear ∙ put k ∙ or_not (packed_bit words k) (k == place) ∙ sym (at n words bits packed is k))

-- the sum of two
pub added_packed : (n m : ℕ) (a b : List ℕ) → m ≡ n → IsPacked n a → IsPacked m b → IsPacked n (zip2 bit_xor a b)
added_packed n m a b same left right = sum_packed n a b left (subst (λ (k : ℕ). IsPacked k b) same right)

pub added_at : (n m : ℕ) (a b : List ℕ) (xs ys : List Bool) → m ≡ n → IsPacked n a → IsPacked m b → bits_of n a ≡ xs → bits_of m b ≡ ys → (k : ℕ) →
    bit_at (bits_of n (zip2 bit_xor a b)) k ≡ xor (bit_at xs k) (bit_at ys k)
added_at n m a b xs ys same left right xs_is ys_is k =
    let P : ℕ → Type 0 = λ j. IsPacked j b in
    sum_at n a b left (subst P same right) k
    ∙ (λ t. xor (bit_at (xs_is t) k) (bit_at ((ap (λ (j : ℕ). bits_of j b) (sym same) ∙ ys_is) t) k))

pub sum_listed : (n m : ℕ) (a b : List ℕ) (xs ys : List Bool) → m ≡ n → IsPacked n a → IsPacked m b → bits_of n a ≡ xs → bits_of m b ≡ ys → odd_common a b ≡ sum_over (length xs) xs (bit_at ys)
sum_listed n m a b xs ys same left right xs_is ys_is =
    let P : ℕ → Type 0 = λ j. IsPacked j b in
    parity_sum n a b left (subst P same right)
    ∙ (λ t. sum_over (sym (size_of n a xs xs_is) t) (xs_is t) (bit_at ((ap (λ (j : ℕ). bits_of j b) (sym same) ∙ ys_is) t)))

-- the last place
pub last_found : (n : ℕ) (words : List ℕ) (bits : List Bool) (found : Option ℕ) → IsPacked n words → bits_of n words ≡ bits →
    MatchOption found ((k : ℕ) → packed_bit words k ≡ false) (λ top. (packed_bit words top ≡ true) × ((k : ℕ) → top < k → packed_bit words k ≡ false)) →
    MatchOption found ((k : ℕ) → bit_at bits k ≡ false) (λ last. (last < length bits) × (bit_at bits last ≡ true) × ((k : ℕ) → last < k → bit_at bits k ≡ false))
last_found n words bits None packed is none = λ k. at n words bits packed is k ∙ none k
last_found n words bits (Some top) packed is top_is =
    let size = size_of n words bits is in (
      (let less = top_within n words top packed top_is.0 in omega arith),
      at n words bits packed is top ∙ top_is.0,
      λ k above. at n words bits packed is k ∙ top_is.1 k above,
    )

-- the words, by the list's own length
pub packed_by : (n : ℕ) (words : List ℕ) (bits : List Bool) → IsPacked n words → bits_of n words ≡ bits → IsPacked (length bits) words
packed_by n words bits packed is = subst (λ (k : ℕ). IsPacked k words) (sym (size_of n words bits is)) packed

pub packed_of : (n : ℕ) (words new : List ℕ) (bits : List Bool) → bits_of n words ≡ bits → IsPacked (length bits) new → IsPacked n new
packed_of n words new bits is packed = subst (λ (k : ℕ). IsPacked k new) (size_of n words bits is) packed

pub listed_by : (n : ℕ) (words new : List ℕ) (bits : List Bool) → bits_of n words ≡ bits → bits_of (length bits) new ≡ bits_of n new
listed_by n words new bits is = ap (λ (k : ℕ). bits_of k new) (size_of n words bits is)
