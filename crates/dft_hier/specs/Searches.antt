-- A search through modules: those that were met, each once, in the order in which they were met.
use Rattle.std.specs.Prelude.{ℕ, Bool, true, false, List, [], ◌∷◌, ◌++◌, slice_set, slice_index_or, if◌then◌else◌}

pub record Met : Type 0 where
  pub met : List Bool
  pub ahead : List ℕ

-- a module comes behind those before
abbrev pub added : Met → (number : ℕ) → Met
added s number = record { met = slice_set s.met number true; ahead = s.ahead ++ number ∷ [] }

-- if it was not met
abbrev pub found : Met → (number : ℕ) → Met
found s number = if slice_index_or s.met number false then s else added s number

-- one after another
abbrev pub found_all : Met → (numbers : List ℕ) → Met
found_all s [] = s
found_all s (number ∷ numbers) = found_all (found s number) numbers
