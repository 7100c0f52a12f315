-- Two patterns worked by hand, each by running the ring, and captures of two flip-flops in a row.
use Rattle.std.proofs.Common.{[], ◌∷◌, refl, ◌∙◌}
use Rattle.dft_config.specs.Ring.{step, state_after}
use Rattle.dft_config.specs.Loads.{delay}
use Rattle.dft_expect.specs.CaptureExamples.{CellsInARow, BehindUnscanned}
use Rattle.dft_expect.specs.Examples.{RisingPatterns, FallingPatterns}

pub rising_patterns_hold : RisingPatterns
unfolding step state_after delay
rising_patterns_hold = record { first_load = refl; second_load = refl; unload = refl }

pub falling_patterns_hold : FallingPatterns
unfolding step state_after delay
falling_patterns_hold = record { first_load = refl; second_load = refl; first_unload = refl; second_unload = refl }

-- what flip-flops take is settled from what they had
pub cells_in_a_row_hold : CellsInARow
cells_in_a_row_hold = record {
  both_rise = λ s are i. are.first 1 i ∷ are.first 2 i ∷ [];
  fall_behind_rise = λ s are i. are.first 1 i ∷ (are.second 2 ∙ are.first 1) i ∷ [];
  rise_behind_fall = λ s are i. are.second 1 i ∷ are.first 2 i ∷ [];
  both_fall = λ s are i. are.second 1 i ∷ are.second 2 i ∷ [];
}

pub behind_unscanned_holds : BehindUnscanned
behind_unscanned_holds = record {
  both_rise = λ s are i. are.first 2 i ∷ [];
  fall_behind_rise = λ s are i. are.second 2 i ∷ [];
}
