-- What is counted of patterns.
use Rattle.std.specs.Prelude.{ℕ, Bool, List, count_by}
use Rattle.std.specs.List.{sum_by}
use Rattle.dft_vectors.specs.PatternData.{PatternData}

abbrev pub is_set : Bool → Bool
is_set bit = bit

-- how many chains are masked in patterns, each once for each pattern
abbrev pub masked_in : List PatternData → ℕ
masked_in patterns = sum_by (λ p. count_by is_set p.masks) patterns
