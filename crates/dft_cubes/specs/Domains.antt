-- The captured domains of a cube.
use Rattle.std.specs.Prelude.{ℕ, List, [], ◌∷◌, length, Option, None, Some}
use Rattle.dft_cubes.specs.declared.cube.Domains.{Domains}
use Rattle.dft_cubes.specs.declared.cube.Merged.{Merged}

-- a clock, if there is one
abbrev pub listed : Option ℕ → List ℕ
listed None = []
listed (Some clock) = clock ∷ []

-- the clocks of a capture behind the first one
abbrev pub later_of : Domains → List ℕ
later_of domains = listed domains.second

-- the clocks of a capture, one for each of its vectors, in order
abbrev pub captured : Domains → List ℕ
captured domains = domains.first ∷ later_of domains

-- how many vectors a pattern captures in
abbrev pub captures_of : Merged → ℕ
captures_of merged = length (captured merged.domains)
