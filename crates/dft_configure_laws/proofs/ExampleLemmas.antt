-- The ring of eight stages and its phase sets, each by running the definitions.
use Rattle.std.proofs.Common.{ℕ, zero, suc, ◌≡◌, ◌<◌, Bool, true, false, ◌&&◌, List, [], ◌∷◌, length, Some, refl, ◌∙◌, ap, arith}
use Rattle.std.specs.Prelude.{take}
use Rattle.std.proofs.lemmas.Bool.{and_parts}
use Rattle.dft_base.specs.Solutions.{xor}
use Rattle.dft_base.proofs.SumLemmas.{xor_false}
use Rattle.dft_config.specs.Ring.{step}
use Rattle.dft_decompressor.specs.Fits.{Fits, IsFitting}
use Rattle.dft_decompressor.specs.Phases.{ArePhases, Full, FullPass, Leaves, Pass, Takes, Wish, bound, generator, may_follow, tries}
use Rattle.dft_decompressor.specs.Rings.{AreInjectors, IsInjector, injector_at, taps_of}
use Rattle.dft_decompressor.specs.Sizes.{sizes}
use Rattle.dft_decompressor.specs.StageSets.{same_set, threes}
use Rattle.dft_decompressor.proofs.OneLemmas.{fit_one, injectors_one, phases_one}
use Rattle.dft_decompressor.proofs.SetLemmas.{same_is}
use Rattle.dft_configure_laws.specs.Examples.{MovesOfEight, PhasesOfEight, RingOfEight, RunsOfEight, added, bits_after, on_one_channel, on_two_channels, phase_sets}

-- ---- the ring

each_on_one : (number : ℕ) → number < 4 → IsInjector 8 1 (take number on_one_channel) number (injector_at on_one_channel number)
unfolding taps_of
each_on_one zero less = record { channel = refl; stage = refl }
each_on_one (suc zero) less = record { channel = refl; stage = refl }
each_on_one (suc (suc zero)) less = record { channel = refl; stage = refl }
each_on_one (suc (suc (suc zero))) less = record { channel = refl; stage = refl }
each_on_one (suc (suc (suc (suc more)))) less = absurd (omega (arith, less))

each_on_two : (number : ℕ) → number < 4 → IsInjector 8 2 (take number on_two_channels) number (injector_at on_two_channels number)
unfolding taps_of
each_on_two zero less = record { channel = refl; stage = refl }
each_on_two (suc zero) less = record { channel = refl; stage = refl }
each_on_two (suc (suc zero)) less = record { channel = refl; stage = refl }
each_on_two (suc (suc (suc zero))) less = record { channel = refl; stage = refl }
each_on_two (suc (suc (suc (suc more)))) less = absurd (omega (arith, less))

are_on_one : AreInjectors 8 1 on_one_channel
are_on_one = record { count = refl; each = each_on_one }

are_on_two : AreInjectors 8 2 on_two_channels
are_on_two = record { count = refl; each = each_on_two }

pub ring_of_eight : RingOfEight
unfolding taps_of
ring_of_eight = record {
  exponents = refl;
  taps = refl;
  one_channel = (are_on_one, λ other is. injectors_one 8 1 4 other on_one_channel is are_on_one);
  two_channels = (are_on_two, λ other is. injectors_one 8 2 4 other on_two_channels is are_on_two);
}

-- ---- what it does

-- what a stage takes that a tap enters
brings : (a b : Bool) → xor a (xor (xor b false) false) ≡ xor a b
brings a b = ap (xor a) (xor_false (xor b false) ∙ xor_false b)

-- whether all lists of so many bits pass a test
abbrev all_pass : (count : ℕ) → (List Bool → Bool) → Bool
all_pass zero test = test []
all_pass (suc count) test = all_pass count (λ bits. test (true ∷ bits)) && all_pass count (λ bits. test (false ∷ bits))

passes : (count : ℕ) (test : List Bool → Bool) (bits : List Bool) → all_pass count test ≡ true → length bits ≡ count → test bits ≡ true
passes zero test [] all is = all
passes zero test (bit ∷ bits) all is = absurd (omega (arith, is))
passes (suc count) test [] all is = absurd (omega (arith, is))
passes (suc count) test (true ∷ bits) all is = passes count (λ rest. test (true ∷ rest)) bits (and_parts _ _ all).0 (omega (arith, is))
passes (suc count) test (false ∷ bits) all is = passes count (λ rest. test (false ∷ rest)) bits (and_parts _ _ all).1 (omega (arith, is))

-- whether eight cycles later the bits are as the polynomial tells
abbrev is_told : List Bool → Bool
is_told bits = same_set (bits_after 8 bits) (added (bits_after 7 bits) (added (bits_after 5 bits) (added (bits_after 3 bits) bits)))

all_told : all_pass 8 is_told ≡ true
unfolding step
all_told = refl

pub runs_of_eight : RunsOfEight
unfolding step
runs_of_eight = record {
  takes = λ a b c d e f g h i.
      xor_false b i ∷ xor_false c i ∷ xor_false d i ∷ brings e d i ∷ brings f c i ∷ brings g b i ∷ xor_false h i ∷ xor_false a i ∷ [];
  polynomial = λ bits is. same_is _ _ (passes 8 is_told bits all_told is);
  back = refl;
  not_before = refl;
}

-- ---- what phase sets become

same_sum : (a b c d : Bool) → xor (xor c false) (xor (xor b (xor (xor d false) false)) (xor (xor a false) false)) ≡ xor a (xor c (xor d (xor b false)))
same_sum = grind arith

pub moves_of_eight : MovesOfEight
unfolding step
moves_of_eight = record {
  moves = refl;
  sums = λ state. same_sum (state 0) (state 4) (state 2) (state 3);
  turned = refl;
  apart = refl;
}

-- ---- the phase sets

abbrev wish : (chains : ℕ) → Wish
wish chains = record { stages = 8; chains = chains; bound = bound 8 chains 0 }

pass_of_one : Pass (wish 1) tries (generator 8) [] ((1 ∷ 3 ∷ 7 ∷ []) ∷ [])
unfolding threes may_follow taps_of
pass_of_one = Takes (omega arith) refl (Full refl)

pass_of_two : Pass (wish 2) tries (generator 8) [] phase_sets
unfolding threes may_follow taps_of
pass_of_two =
    Takes (omega arith) refl (Leaves (omega arith) refl (Leaves (omega arith) refl (Leaves (omega arith) refl (Leaves (omega arith) refl
    (Leaves (omega arith) refl (Leaves (omega arith) refl (Leaves (omega arith) refl (Takes (omega arith) refl (Full refl)))))))))

sets_of_one : ArePhases 8 1 (Some ((1 ∷ 3 ∷ 7 ∷ []) ∷ []))
sets_of_one = FullPass pass_of_one refl

sets_of_two : ArePhases 8 2 (Some phase_sets)
sets_of_two = FullPass pass_of_two refl

fitting_of_two : IsFitting 2 1 (Some (record { stages = 8; phase = phase_sets }))
fitting_of_two = Fits (omega arith) sets_of_two

pub phases_of_eight : PhasesOfEight
unfolding threes may_follow taps_of
phases_of_eight = record {
  sets = refl;
  words = refl;
  drawn = refl;
  bound = refl;
  left = refl;
  taken = refl;
  one_chain = (sets_of_one, λ other is. phases_one 8 1 4 0 other _ is sets_of_one);
  two_chains = (sets_of_two, λ other is. phases_one 8 2 4 0 other _ is sets_of_two);
  need = refl;
  fitting = (fitting_of_two, λ other is. fit_one 7 2 sizes other _ is fitting_of_two);
}
