-- The first words of a row take another row's, which has no bit past them.
use Rattle.std.proofs.Common.{ℕ, Bool, false, ◌≡◌, ◌<◌, ◌≤◌, ◌+◌, ◌-◌, ◌/◌, ◌%◌, ◌⊎◌, inl, inr, List, ◌++◌, length, get_or, take, drop, refl, sym, ap, arith, ◌∙◌}
use Rattle.std.specs.Prelude.{◌==◌}
use Rattle.std.specs.Int.{bit_at as bit_of_word}
use Rattle.std.proofs.lemmas.Bool.{cases_lt}
use Rattle.std.proofs.lemmas.List.{get_or_append_left, get_or-append_right, get_or-take, get_or-drop, length-take, length-take-le}
use Rattle.dft_base.specs.Packed.{packed_bit}
use Rattle.dft_base.specs.Solutions.{xor, bit_at}
use Rattle.dft_lanes.specs.Rows.{bits_of, words_for, IsPacked}
use Rattle.dft_lanes.proofs.RowLemmas.{bits-at, packed_bit-past}
use Rattle.dft_gf2.specs.Ends.{EndsAt}
use Rattle.dft_gf2.proofs.BitsLemmas.{at}

-- bits of one word
same_word : (xs ys : List ℕ) (i j k : ℕ) → get_or xs i 0 ≡ get_or ys j 0 → i ≡ k / 64 → j ≡ k / 64 → packed_bit xs k ≡ packed_bit ys k
unfolding packed_bit
same_word xs ys i j k word left right =
    let words : get_or xs (k / 64) 0 ≡ get_or ys (k / 64) 0 = ap (λ (n : ℕ). get_or xs n 0) (sym left) ∙ word ∙ ap (λ (n : ℕ). get_or ys n 0) right in
    ap (λ (w : ℕ). bit_of_word w (k % 64) == 1) words

first_bit : (xs ys : List ℕ) (k : ℕ) → k / 64 < length xs → packed_bit (xs ++ ys) k ≡ packed_bit xs k
first_bit xs ys k first = same_word (xs ++ ys) xs (k / 64) (k / 64) k (get_or_append_left xs ys 0 (k / 64) first) refl refl

taken_bit : (n : ℕ) (xs : List ℕ) (k : ℕ) → k / 64 < n → packed_bit (take n xs) k ≡ packed_bit xs k
taken_bit n xs k first = same_word (take n xs) xs (k / 64) (k / 64) k (get_or-take n xs (k / 64) 0 first) refl refl

rest_bit : (n : ℕ) (xs ys : List ℕ) (k : ℕ) → length xs ≡ n → n ≤ k / 64 → packed_bit (xs ++ drop n ys) k ≡ packed_bit ys k
rest_bit n xs ys k size rest =
    same_word (xs ++ drop n ys) ys (k / 64) (n + (k / 64 - n)) k (get_or-append_right xs (drop n ys) n (k / 64) 0 size rest ∙ get_or-drop n ys (k / 64 - n) 0) refl (omega arith)

xor_none : (a b : Bool) → b ≡ false → a ≡ xor a b
xor_none = grind arith

sums_case : (n : ℕ) (words others new : List ℕ) (k : ℕ) → (k / 64 < n) ⊎ (n ≤ k / 64) → length new ≡ n
    → packed_bit new k ≡ xor (packed_bit (take n words) k) (packed_bit (take n others) k) → (n ≤ k / 64 → packed_bit others k ≡ false)
    → packed_bit (new ++ drop n words) k ≡ xor (packed_bit words k) (packed_bit others k)
sums_case n words others new k (inl first) size sums end =
    first_bit new (drop n words) k (omega arith) ∙ sums ∙ (λ t. xor (taken_bit n words k first t) (taken_bit n others k first t))
sums_case n words others new k (inr rest) size sums end = rest_bit n new words k size rest ∙ xor_none (packed_bit words k) (packed_bit others k) (end rest)

pub first_sums : (n : ℕ) (words others new : List ℕ) (k : ℕ) → length new ≡ n
    → packed_bit new k ≡ xor (packed_bit (take n words) k) (packed_bit (take n others) k) → (n ≤ k / 64 → packed_bit others k ≡ false)
    → packed_bit (new ++ drop n words) k ≡ xor (packed_bit words k) (packed_bit others k)
first_sums n words others new k = sums_case n words others new k (cases_lt (k / 64) n)

-- other bits end at a place, so the words past its word have none
pub ends_by_words : (n last : ℕ) (others : List ℕ) (bits : List Bool) → IsPacked n others → bits_of n others ≡ bits → EndsAt bits last → (k : ℕ) → last / 64 + 1 ≤ k / 64 → packed_bit others k ≡ false
ends_by_words n last others bits packed is end k past = sym (at n others bits packed is k) ∙ end k (omega arith)

-- the sums are packed bits, where the others end before them
pub sums_packed : (n m last : ℕ) (words others new : List ℕ) (ys : List Bool) → last < n → IsPacked n words → IsPacked m others → bits_of m others ≡ ys → EndsAt ys last → length new ≡ length words
    → ((k : ℕ) → packed_bit new k ≡ xor (packed_bit words k) (packed_bit others k)) → IsPacked n new
sums_packed n m last words others new ys within left right ys_is end size sums = record {
  size = size ∙ left.size;
  clear = λ k past. sums k ∙ (λ t. xor (left.clear k past t) ((sym (at m others ys right ys_is k) ∙ end k (omega arith)) t));
}

pub sums_at : (n m last : ℕ) (words others new : List ℕ) (xs ys : List Bool) → (within : last < n) → (left : IsPacked n words) → (right : IsPacked m others) → (xs_is : bits_of n words ≡ xs) → (ys_is : bits_of m others ≡ ys) → (end : EndsAt ys last) → (size : length new ≡ length words)
    → (sums : ((k : ℕ) → packed_bit new k ≡ xor (packed_bit words k) (packed_bit others k))) → (k : ℕ) → bit_at (bits_of n new) k ≡ xor (bit_at xs k) (bit_at ys k)
sums_at n m last words others new xs ys within left right xs_is ys_is end size sums k =
    bits-at new n k (sums_packed n m last words others new ys within left right ys_is end size sums).clear ∙ sums k
    ∙ (λ t. xor (sym (at n words xs left xs_is k) t) (sym (at m others ys right ys_is k) t))

-- the first words of other bits, which have none past n
copied_case : (n m w : ℕ) (others : List ℕ) (ys : List Bool) (k : ℕ) → (k / 64 < w) ⊎ (w ≤ k / 64) → w ≡ words_for n → IsPacked m others → bits_of m others ≡ ys
    → ((j : ℕ) → n ≤ j → bit_at ys j ≡ false) → packed_bit (take w others) k ≡ bit_at ys k
copied_case n m w others ys k (inl first) size packed is end = taken_bit w others k first ∙ sym (at m others ys packed is k)
copied_case n m w others ys k (inr rest) size packed is end =
    let long : length (take w others) ≤ w = omega (arith, length-take w others) in
    packed_bit-past (take w others) k (omega arith) ∙ sym (end k (omega arith))

copied_bit : (n m w : ℕ) (others : List ℕ) (ys : List Bool) → w ≡ words_for n → IsPacked m others → bits_of m others ≡ ys
    → ((j : ℕ) → n ≤ j → bit_at ys j ≡ false) → (k : ℕ) → packed_bit (take w others) k ≡ bit_at ys k
copied_bit n m w others ys size packed is end k = copied_case n m w others ys k (cases_lt (k / 64) w) size packed is end

pub copied_packed : (n m w : ℕ) (others : List ℕ) (ys : List Bool) → n ≤ m → w ≡ words_for n → IsPacked m others → bits_of m others ≡ ys
    → ((j : ℕ) → n ≤ j → bit_at ys j ≡ false) → IsPacked n (take w others)
copied_packed n m w others ys fits size packed is end = record {
  size = length-take-le w others (omega (arith, packed.size)) ∙ size;
  clear = λ k past. copied_bit n m w others ys size packed is end k ∙ end k past;
}

pub copied_at : (n m w : ℕ) (others : List ℕ) (ys : List Bool) → n ≤ m → w ≡ words_for n → IsPacked m others → bits_of m others ≡ ys
    → ((j : ℕ) → n ≤ j → bit_at ys j ≡ false) → (k : ℕ) → bit_at (bits_of n (take w others)) k ≡ bit_at ys k
copied_at n m w others ys fits size packed is end k =
    bits-at (take w others) n k (copied_packed n m w others ys fits size packed is end).clear ∙ copied_bit n m w others ys size packed is end k
