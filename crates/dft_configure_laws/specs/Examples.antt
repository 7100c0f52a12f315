-- The ring of eight stages and its phase sets, worked by hand (Mrugalski, Rajski and Tyszer, Ring generators, 2004).
use Rattle.std.specs.Prelude.{ℕ, zero, suc, ◌≡◌, Bool, true, false, List, [], ◌∷◌, ◌++◌, length, map, Some}
use Rattle.std.specs.List.{list_any, range_with_len}
use Rattle.rand_pcg.specs.Lcg.{Lcg}
use Rattle.rand_pcg.specs.Pcg.{pcg32}
use Rattle.dft_base.specs.Solutions.{bit_at, xor}
use Rattle.dft_config.specs.declared.config.Tap.{Tap}
use Rattle.dft_config.specs.declared.config.Injector.{Injector}
use Rattle.dft_config.specs.declared.config.RingConfig.{RingConfig}
use Rattle.dft_config.specs.Range.{has}
use Rattle.dft_config.specs.Ring.{phase_sum, sum_of}
use Rattle.dft_decompressor.specs.Fits.{IsFitting}
use Rattle.dft_decompressor.specs.Phases.{ArePhases, bound, generator, may_follow, next_state, set_of_word}
use Rattle.dft_decompressor.specs.Rings.{AreInjectors, exponents, taps_of}
use Rattle.dft_decompressor.specs.Sizes.{need}
use Rattle.dft_decompressor.specs.StageSets.{are_apart, bits_of, moved, moves_of, same_set, threes}
use Rattle.dft_configure_laws.specs.Moves.{quiet}

-- this is as stated, and nothing else is
abbrev pub IsOnly : {T : Type 0} → (IsStated : T → Type 0) → T → Type 0
IsOnly {T} IsStated x = IsStated x × ((other : T) → IsStated other → other ≡ x)

-- ---- the ring

-- x^8 + x^5 + x^3 + x + 1: a loop of five stages, one of three in it, and one of the stage 3 alone
abbrev pub taps_of_eight : List Tap
taps_of_eight = record { from = 1; to = 5 } ∷ record { from = 2; to = 4 } ∷ record { from = 3; to = 3 } ∷ []

-- The search for the four injectors' stages begins at 0, 2, 4 and 6. Taps enter stages 4 and 5, so the third stands at 6, and then the fourth at 7.
abbrev pub on_one_channel : List Injector
on_one_channel = record { channel = 0; stage = 0 } ∷ record { channel = 0; stage = 2 } ∷ record { channel = 0; stage = 6 } ∷ record { channel = 0; stage = 7 } ∷ []

-- each of two channels has two of them
abbrev pub on_two_channels : List Injector
on_two_channels = record { channel = 0; stage = 0 } ∷ record { channel = 0; stage = 2 } ∷ record { channel = 1; stage = 6 } ∷ record { channel = 1; stage = 7 } ∷ []

pub record RingOfEight : Type 0 where
  pub exponents : exponents 8 ≡ 5 ∷ 3 ∷ 1 ∷ []
  pub taps : taps_of 8 ≡ taps_of_eight
  pub one_channel : IsOnly (AreInjectors 8 1) on_one_channel
  pub two_channels : IsOnly (AreInjectors 8 2) on_two_channels

-- ---- what it does

-- on one channel, with the phase sets of two chains
abbrev pub phase_sets : List (List ℕ)
phase_sets = (1 ∷ 3 ∷ 7 ∷ []) ∷ (0 ∷ 2 ∷ 4 ∷ []) ∷ []

abbrev pub ring_of_eight : RingConfig
ring_of_eight = record { stages = 8; channels = 1; taps = taps_of_eight; injectors = on_one_channel; phase = phase_sets }

-- the bits of its stages after a cycle without channel bits, and after so many
abbrev pub next_bits : List Bool → List Bool
next_bits bits = map (quiet ring_of_eight (bit_at bits)) (range_with_len 0 8)

abbrev pub bits_after : (cycles : ℕ) → List Bool → List Bool
bits_after zero bits = bits
bits_after (suc cycles) bits = bits_after cycles (next_bits bits)

-- the bits before each of so many cycles
abbrev pub run_of : (cycles : ℕ) → List Bool → List (List Bool)
run_of zero bits = []
run_of (suc cycles) bits = bits ∷ run_of cycles (next_bits bits)

-- the sum of two states, stage by stage
abbrev pub added : List Bool → List Bool → List Bool
added bits others = map (λ stage. xor (bit_at bits stage) (bit_at others stage)) (range_with_len 0 8)

-- the first stage alone has a 1
abbrev pub one_bit : List Bool
one_bit = bits_of 8 (0 ∷ [])

-- A stage takes the bit of the next one and what a tap brings. The state of eight cycles later is the sum of those of seven, five and three cycles
-- later and of this one: the ring's polynomial is x^8 + x^7 + x^5 + x^3 + 1, the exponents' read backwards. It is primitive: from one bit on the
-- ring is back after 255 cycles, and not before.
pub record RunsOfEight : Type 0 where
  pub takes : (a b c d e f g h : Bool) → next_bits (a ∷ b ∷ c ∷ d ∷ e ∷ f ∷ g ∷ h ∷ []) ≡ b ∷ c ∷ d ∷ xor e d ∷ xor f c ∷ xor g b ∷ h ∷ a ∷ []
  pub polynomial : (bits : List Bool) → length bits ≡ 8 → bits_after 8 bits ≡ added (bits_after 7 bits) (added (bits_after 5 bits) (added (bits_after 3 bits) bits))
  pub back : bits_after 255 one_bit ≡ one_bit
  pub not_before : has same_set (run_of 254 (next_bits one_bit)) one_bit ≡ false

-- ---- what phase sets become

-- A cycle moves each stage of the first phase set by one, and the tap that enters at stage 3 brings stage 3: so the sum over the set after a cycle is
-- the sum over the moved set before it. Where no tap enters a set, the set that is turned by one stage is not apart from it; the two phase sets are
-- apart.
pub record MovesOfEight : Type 0 where
  pub moves : moved taps_of_eight (bits_of 8 (1 ∷ 3 ∷ 7 ∷ [])) ≡ bits_of 8 (0 ∷ 2 ∷ 3 ∷ 4 ∷ [])
  pub sums : (state : ℕ → Bool) → phase_sum ring_of_eight 0 (quiet ring_of_eight state) ≡ sum_of state (0 ∷ 2 ∷ 3 ∷ 4 ∷ [])
  pub turned : are_apart (moves_of 8 taps_of_eight (0 ∷ 1 ∷ 2 ∷ [])) (moves_of 8 taps_of_eight (1 ∷ 2 ∷ 3 ∷ [])) ≡ false
  pub apart : are_apart (moves_of 8 taps_of_eight (1 ∷ 3 ∷ 7 ∷ [])) (moves_of 8 taps_of_eight (0 ∷ 2 ∷ 4 ∷ [])) ≡ true

-- ---- the phase sets

-- the next words of a generator
abbrev pub words_of : (count : ℕ) → Lcg → List ℕ
words_of zero random = []
words_of (suc count) random = (pcg32 random).0 ∷ words_of count (next_state random)

-- the first nine words; their remainders by 56 are 29, 28, 23, 45, 13, 49, 50, 23 and 7
abbrev pub first_words : List ℕ
first_words = 3288430965 ∷ 2796775996 ∷ 1843585711 ∷ 3080398597 ∷ 2679833421 ∷ 2489948769 ∷ 3412618490 ∷ 3021338399 ∷ 3912776623 ∷ []

-- the sets of these ranks, between those of the first and the last
abbrev pub sets_between : List (List ℕ)
sets_between = (1 ∷ 3 ∷ 6 ∷ []) ∷ (1 ∷ 2 ∷ 5 ∷ []) ∷ (2 ∷ 6 ∷ 7 ∷ []) ∷ (0 ∷ 3 ∷ 6 ∷ []) ∷ (3 ∷ 5 ∷ 6 ∷ []) ∷ (3 ∷ 5 ∷ 7 ∷ []) ∷ (1 ∷ 2 ∷ 5 ∷ []) ∷ []

-- One chain gets the set of the first word. With two chains a stage is in one set at most, and each set between has a stage of the first one: the
-- second chain gets the set of the ninth word. Two chains on one channel get this ring, and nothing else.
pub record PhasesOfEight : Type 0 where
  pub sets : length (threes 8) ≡ 56
  pub words : words_of 9 (generator 8) ≡ first_words
  pub drawn : map (set_of_word 8) first_words ≡ (1 ∷ 3 ∷ 7 ∷ []) ∷ sets_between ++ (0 ∷ 2 ∷ 4 ∷ []) ∷ []
  pub bound : bound 8 2 0 ≡ 1
  pub left : list_any (may_follow 8 1 ((1 ∷ 3 ∷ 7 ∷ []) ∷ [])) sets_between ≡ false
  pub taken : may_follow 8 1 ((1 ∷ 3 ∷ 7 ∷ []) ∷ []) (0 ∷ 2 ∷ 4 ∷ []) ≡ true
  pub one_chain : IsOnly (ArePhases 8 1) (Some ((1 ∷ 3 ∷ 7 ∷ []) ∷ []))
  pub two_chains : IsOnly (ArePhases 8 2) (Some phase_sets)
  pub need : need 2 1 ≡ 7
  pub fitting : IsOnly (IsFitting 2 1) (Some (record { stages = 8; phase = phase_sets }))
