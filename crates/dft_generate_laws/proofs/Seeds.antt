-- A seed gives words of 32 bits, as many as are wanted.
use Rattle.std.proofs.Common.{ℕ, zero, suc, ◌+◌, ◌-◌, ◌*◌, ◌/◌, ◌%◌, ◌<◌, ◌^◌, arith}
use Rattle.std.specs.Prelude.{bit_xor}
use Rattle.std.specs.Int.{w32, rotate_right}
use Rattle.std.specs.List.{All}
use Rattle.std.proofs.Math.Nat.{mod-lt, div-le_self}
use Rattle.std.proofs.lemmas.Nat.{or_of_32}
use Rattle.rand_core.specs.Steps.{first_words}
use Rattle.rand_pcg.specs.Lcg.{Lcg}
use Rattle.rand_pcg.specs.Pcg.{output_xsh_rr, pcg32}
use Rattle.dft_random.specs.Words.{generator}
use Rattle.dft_random.proofs.WordLemmas.{words_count}
use Rattle.dft_generate_laws.specs.Laws.{SeedsGiveWords}

rotated_small : (n by : ℕ) → n < 2 ^ 32 → rotate_right w32 n by < 2 ^ 32
rotated_small n by lt =
    or_of_32 (n / 2 ^ (by % 32)) ((n * 2 ^ ((32 - by % 32) % 32)) % 2 ^ 32) (let d = div-le_self n (2 ^ (by % 32)) in omega (arith, d, lt)) (mod-lt (n * 2 ^ ((32 - by % 32) % 32)) (omega arith))

word_small : (state : ℕ) → output_xsh_rr state < 2 ^ 32
word_small state = rotated_small (bit_xor (state / 2 ^ 18) state / 2 ^ 27 % 2 ^ 32) (state / 2 ^ 59) (mod-lt (bit_xor (state / 2 ^ 18) state / 2 ^ 27) (omega arith))

all_small : (k : ℕ) (s : Lcg) → All (λ word. word < 2 ^ 32) (first_words pcg32 k s)
unfolding first_words
all_small zero s i d lt = absurd (omega (arith, lt))
all_small (suc k) s zero d lt = word_small s.state
all_small (suc k) s (suc i) d lt = all_small k (pcg32 s).1 i d (omega (arith, lt))

pub seeds_give_words : SeedsGiveWords
seeds_give_words seed size = record {
  enough = let c = words_count pcg32 (size * 3 + size / 4 * 4) (generator seed 0) in omega (arith, c);
  small = all_small (size * 3 + size / 4 * 4) (generator seed 0);
}
