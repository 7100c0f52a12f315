-- How large a ring is made for so many chains and channels.
use Rattle.std.specs.Prelude.{ℕ, ◌+◌, ◌-◌, ◌*◌, ◌/◌, List, [], ◌∷◌, min, max}

-- the stages of the rings that are made
abbrev pub sizes : List ℕ
sizes = 8 ∷ 16 ∷ 24 ∷ 32 ∷ 48 ∷ 64 ∷ 96 ∷ 128 ∷ []

-- a whole division, rounded up
abbrev pub rounded_up : (number by : ℕ) → ℕ
rounded_up number by = (number + (by - 1)) / by

-- the stages that the channels ask for: three injectors each, or more for many chains
abbrev pub wanted_by_channels : (chains channels : ℕ) → ℕ
wanted_by_channels chains channels = max (4 * channels + 3) (min (3 * chains) (max 32 (12 * channels)))

-- the least number of stages that a ring needs, at most 128
abbrev pub need : (chains channels : ℕ) → ℕ
need chains channels = min 128 (max (wanted_by_channels chains channels) (rounded_up chains 8))
