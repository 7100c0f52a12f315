-- The parity of the bits that two rows have in common, by words.
use Rattle.std.proofs.Common.{ℕ, zero, suc, Bool, false, ◌≡◌, ◌<◌, ◌≤◌, ◌+◌, ◌*◌, ◌/◌, ◌%◌, ◌^◌, List, [], ◌∷◌, length, get_or, take, refl, sym, ap, arith, ◌∙◌, add-zero}
use Rattle.std.specs.Prelude.{◌&&◌, ◌==◌, bit_and, bit_xor, count_ones}
use Rattle.std.specs.Int.{bit_at}
use Rattle.std.specs.Int.Bits.{xor_assoc, xor_zero_r}
use Rattle.std.specs.Simd.Lanes.{zip2, chunk, fold_l}
use Rattle.std.proofs.lemmas.Nat.{xor_comm}
use Rattle.std.proofs.lemmas.Bool.Decides.{nat_tests}
use Rattle.std.proofs.lemmas.Nat.Bits.{bit_at_lowest, bit_at-suc, bit_at-zero}
use Rattle.std.proofs.lemmas.Simd.{length-chunk, length-zip2}
use Rattle.std.proofs.Math.Nat.{pow-suc}
use Rattle.std.proofs.Math.Seq.{drop-cons}
use lib.Count.{ones_step, ones-le}
use Rattle.dft_base.specs.Packed.{packed_bit}
use Rattle.dft_base.specs.Solutions.{xor, sum_to}
use Rattle.dft_base.proofs.SumLemmas.{xor_false, sum_same, sum_zero, sum_add, xor_comm as xor_comm_bits}
use Rattle.dft_lanes.specs.Sums.{odd_common}
use Rattle.dft_lanes.proofs.BitLemmas.{and_bit, xor_bit}
use Rattle.dft_lanes.proofs.SumLemmas.{sum_split}

-- the sum of the words that the first n words have in common
abbrev pub common_to : ℕ → List ℕ → List ℕ → ℕ
common_to zero a b = 0
common_to (suc n) a b = bit_xor (common_to n a b) (bit_and (get_or a n 0) (get_or b n 0))

-- the sum of a vector's lanes
abbrev pub lane_sum : List ℕ → ℕ
lane_sum = fold_l bit_xor 0

sum_from : (s : ℕ) (xs : List ℕ) → fold_l bit_xor s xs ≡ bit_xor s (lane_sum xs)
sum_from s [] = sym (xor_zero_r s)
sum_from s (x ∷ xs) = sum_from (bit_xor s x) xs ∙ xor_assoc s x (lane_sum xs) ∙ ap (bit_xor s) (sym (sum_from x xs))

xor_swap : (a b c d : ℕ) → bit_xor (bit_xor a b) (bit_xor c d) ≡ bit_xor (bit_xor a c) (bit_xor b d)
xor_swap a b c d =
    xor_assoc a b (bit_xor c d) ∙ ap (bit_xor a) (sym (xor_assoc b c d) ∙ ap (λ (v : ℕ). bit_xor v d) (xor_comm b c) ∙ xor_assoc c b d)
    ∙ sym (xor_assoc a c (bit_xor b d))

-- the lanes of a sum
sum_of_xor : (xs ys : List ℕ) → length xs ≡ length ys → lane_sum (zip2 bit_xor xs ys) ≡ bit_xor (lane_sum xs) (lane_sum ys)
sum_of_xor [] [] same = refl
sum_of_xor [] (y ∷ ys) same = absurd (omega arith)
sum_of_xor (x ∷ xs) [] same = absurd (omega arith)
sum_of_xor (x ∷ xs) (y ∷ ys) same =
    sum_from (bit_xor x y) (zip2 bit_xor xs ys)
    ∙ ap (bit_xor (bit_xor x y)) (sum_of_xor xs ys (omega arith))
    ∙ xor_swap x y (lane_sum xs) (lane_sum ys)
    ∙ sym (λ t. bit_xor (sum_from x xs t) (sum_from y ys t))

chunk_step : (n m : ℕ) (xs : List ℕ) → n < length xs → chunk n (suc m) xs ≡ get_or xs n 0 ∷ chunk (suc n) m xs
chunk_step n m xs within = ap (take (suc m)) (drop-cons xs n 0 within)

-- the next m words, summed from the sum of those before
common_chunk : (m n : ℕ) (a b : List ℕ) → n + m ≤ length a → n + m ≤ length b
    → fold_l bit_xor (common_to n a b) (zip2 bit_and (chunk n m a) (chunk n m b)) ≡ common_to (n + m) a b
common_chunk zero n a b a_room b_room = ap (λ (k : ℕ). common_to k a b) (sym (add-zero n))
common_chunk (suc m) n a b a_room b_room =
    let next : suc n + m ≡ n + suc m = omega arith in
    (λ t. fold_l bit_xor (common_to n a b) (zip2 bit_and (chunk_step n m a (omega arith) t) (chunk_step n m b (omega arith) t)))
    ∙ common_chunk m (suc n) a b (omega arith) (omega arith)
    ∙ ap (λ (k : ℕ). common_to k a b) next

block_size : (n : ℕ) (a b : List ℕ) → n + 8 ≤ length a → n + 8 ≤ length b → length (zip2 bit_and (chunk n 8 a) (chunk n 8 b)) ≡ 8
block_size n a b a_room b_room =
    let long = length-chunk n 8 a a_room in
    length-zip2 bit_and (chunk n 8 a) (chunk n 8 b) (long ∙ sym (length-chunk n 8 b b_room)) ∙ long

-- a vector whose lanes sum to what the first n words have in common
pub record IsCommon (n : ℕ) (a b lanes : List ℕ) : Type 0 where
  pub size : length lanes ≡ 8
  pub sum : lane_sum lanes ≡ common_to n a b

-- it takes eight words more
pub common_block : (n : ℕ) (a b lanes : List ℕ) → n + 8 ≤ length a → n + 8 ≤ length b → IsCommon n a b lanes
    → IsCommon (n + 8) a b (zip2 bit_xor lanes (zip2 bit_and (chunk n 8 a) (chunk n 8 b)))
common_block n a b lanes a_room b_room before =
    let block = zip2 bit_and (chunk n 8 a) (chunk n 8 b) in
    let same : length lanes ≡ length block = before.size ∙ sym (block_size n a b a_room b_room) in
    record {
      size = length-zip2 bit_xor lanes block same ∙ before.size;
      sum = sum_of_xor lanes block same ∙ ap (λ (v : ℕ). bit_xor v (lane_sum block)) before.sum ∙ sym (sum_from (common_to n a b) block)
          ∙ common_chunk 8 n a b a_room b_room;
    }

-- the parity of a word's first d bits
bits_sum : ℕ → ℕ → Bool
bits_sum d word = sum_to d (λ i. bit_at word i == 1)

odd_step : (low rest : ℕ) → low < 2 → ((low + rest) % 2 == 1) ≡ xor (rest % 2 == 1) (low == 1)
odd_step low rest fits = grind (arith, nat_tests)

lowest : (word : ℕ) → (word % 2 == 1) ≡ sum_to 1 (λ i. bit_at word i == 1)
lowest word = ap (λ (v : ℕ). v == 1) (sym (bit_at_lowest word)) ∙ sym (xor_false (bit_at word 0 == 1))

-- the parity of a word's ones
ones_parity : (d word : ℕ) → word < 2 ^ d → (count_ones word % 2 == 1) ≡ bits_sum d word
unfolding bits_sum
ones_parity zero word fits = let none : count_ones word ≡ 0 = omega (arith, ones-le 0 word fits) in ap (λ (v : ℕ). v % 2 == 1) none
ones_parity (suc d) word fits =
    let halved : word / 2 < 2 ^ d = omega (arith, pow-suc 2 d) in
    let next : 1 + d ≡ suc d = omega arith in
    ap (λ (v : ℕ). v % 2 == 1) (ones_step word)
    ∙ odd_step (word % 2) (count_ones (word / 2)) (omega arith)
    ∙ (λ t. xor (ones_parity d (word / 2) halved t) (lowest word t))
    ∙ ap (λ (b : Bool). xor b (sum_to 1 (λ i. bit_at word i == 1)))
    (sum_same d (λ i. bit_at (word / 2) i == 1) (λ i. bit_at word (1 + i) == 1)
    (λ i less. let up : suc i ≡ 1 + i = omega arith in ap (λ (v : ℕ). v == 1) (sym (bit_at-suc word i) ∙ ap (bit_at word) up)))
    ∙ sym (sum_split 1 d (λ i. bit_at word i == 1))
    ∙ ap (λ (k : ℕ). sum_to k (λ i. bit_at word i == 1)) next

zero_parity : (d : ℕ) → bits_sum d 0 ≡ false
unfolding bits_sum
zero_parity d = sum_zero d (λ i. bit_at 0 i == 1) (λ i less. ap (λ (v : ℕ). v == 1) (bit_at-zero i))

xor_parity : (d x y : ℕ) → bits_sum d (bit_xor x y) ≡ xor (bits_sum d x) (bits_sum d y)
unfolding bits_sum
xor_parity d x y =
    sum_same d (λ i. bit_at (bit_xor x y) i == 1) (λ i. xor (bit_at x i == 1) (bit_at y i == 1)) (λ i less. xor_bit x y i)
    ∙ sum_add d (λ i. bit_at x i == 1) (λ i. bit_at y i == 1)

-- a bit that both rows have
common_bit : (n i : ℕ) (a b : List ℕ) → i < 64 → (bit_at (bit_and (get_or a n 0) (get_or b n 0)) i == 1) ≡ packed_bit a (64 * n + i) && packed_bit b (64 * n + i)
unfolding packed_bit
common_bit n i a b less =
    let at : n ≡ (64 * n + i) / 64 = omega arith in
    let bit : i ≡ (64 * n + i) % 64 = omega arith in
    and_bit (get_or a n 0) (get_or b n 0) i
    ∙ (λ t. (bit_at (get_or a (at t) 0) (bit t) == 1) && (bit_at (get_or b (at t) 0) (bit t) == 1))

-- the first d bits of the words at n
word_parity : (d n : ℕ) (a b : List ℕ) → d ≤ 64 → bits_sum d (bit_and (get_or a n 0) (get_or b n 0)) ≡ sum_to d (λ i. packed_bit a (64 * n + i) && packed_bit b (64 * n + i))
unfolding bits_sum
word_parity d n a b fits =
    sum_same d (λ i. bit_at (bit_and (get_or a n 0) (get_or b n 0)) i == 1) (λ i. packed_bit a (64 * n + i) && packed_bit b (64 * n + i))
    (λ i less. common_bit n i a b (omega arith))

-- the first n words
common_parity : (d n : ℕ) (a b : List ℕ) → d ≡ 64 → bits_sum d (common_to n a b) ≡ sum_to (64 * n) (λ place. packed_bit a place && packed_bit b place)
common_parity d zero a b words = zero_parity d
common_parity d (suc n) a b words =
    let more : 64 * n + d ≡ 64 * suc n = omega arith in
    xor_parity d (common_to n a b) (bit_and (get_or a n 0) (get_or b n 0))
    ∙ (λ t. xor (common_parity d n a b words t) (word_parity d n a b (omega arith) t))
    ∙ xor_comm_bits (sum_to (64 * n) (λ place. packed_bit a place && packed_bit b place)) (sum_to d (λ i. packed_bit a (64 * n + i) && packed_bit b (64 * n + i)))
    ∙ sym (sum_split (64 * n) d (λ place. packed_bit a place && packed_bit b place))
    ∙ ap (λ (k : ℕ). sum_to k (λ place. packed_bit a place && packed_bit b place)) more

-- the ones of the sum of all common words
pub whole_parity : (n sum : ℕ) (a b : List ℕ) → n ≡ length a → sum < 2 ^ 64 → sum ≡ common_to n a b → (count_ones sum % 2 == 1) ≡ odd_common a b
unfolding odd_common
whole_parity n sum a b all fits is =
    ones_parity 64 sum fits ∙ ap (bits_sum 64) is ∙ common_parity 64 n a b refl
    ∙ ap (λ (k : ℕ). sum_to (64 * k) (λ place. packed_bit a place && packed_bit b place)) all
