-- Load equations worked by hand: a ring of four stages and one channel, with two chains.
use Rattle.std.specs.Prelude.{ℕ, Bool, true, false, ◌≡◌, ◌*◌, List, [], ◌∷◌, filter}
use Rattle.std.specs.List.{range_with_len}
use Rattle.dft_config.specs.declared.config.RingConfig.{RingConfig}
use Rattle.dft_config.specs.Loads.{load_equation}

-- a tap from stage 2 to stage 0; the channel comes into stage 3; the chains take stages 0 and 3, and stages 1 and 2
abbrev pub small_ring : RingConfig
small_ring = record {
  stages = 4;
  channels = 1;
  taps = record { from = 2; to = 0 } ∷ [];
  injectors = record { channel = 0; stage = 3 } ∷ [];
  phase = (0 ∷ 3 ∷ []) ∷ (1 ∷ 2 ∷ []) ∷ [];
}

-- the columns that the cell at a place of a chain sums, for loads of five cycles
abbrev pub columns_in : (late : Bool) → (chain place : ℕ) → List ℕ
columns_in late chain place = filter (load_equation small_ring 5 late chain place) (range_with_len 0 (5 * small_ring.channels))

-- the first chain has three cells and begins with a rising one; the second has two
pub record RisingHeads : Type 0 where
  pub first : columns_in false 0 0 ≡ 1 ∷ 3 ∷ []
  pub second : columns_in false 0 1 ≡ 0 ∷ 2 ∷ []
  pub third : columns_in false 0 2 ≡ 1 ∷ []
  pub other_first : columns_in false 1 0 ≡ 1 ∷ 2 ∷ []
  pub other_second : columns_in false 1 1 ≡ 0 ∷ 1 ∷ []

-- where the first chain begins with a falling cell, each of its cells sums the columns one cycle later, and the variable of the last cycle
pub record FallingHead : Type 0 where
  pub first : columns_in true 0 0 ≡ 0 ∷ 2 ∷ 4 ∷ []
  pub second : columns_in true 0 1 ≡ 1 ∷ 3 ∷ []
  pub third : columns_in true 0 2 ≡ 0 ∷ 2 ∷ []
