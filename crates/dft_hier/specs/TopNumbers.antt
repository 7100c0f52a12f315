-- The modules that no module has an instance of, by their numbers.
use Rattle.std.specs.Prelude.{ℕ, ◌≡◌, ◌≢◌, ◌<◌, ◌==◌, Bool, false, not, List, [], ◌∷◌, length, filter, slice_index_or}
use Rattle.std.specs.List.{list_any, range_with_len}
use Rattle.dft_hier.specs.declared.error.HierError.{HierError}
use Rattle.dft_hier.specs.declared.error.HierError.TheVariants as told
use Rattle.dft_hier.specs.Reach.{Graph}

-- whether some module has an instance of this one
abbrev pub is_instantiated : Graph → (number : ℕ) → Bool
is_instantiated g number = list_any (λ (children : List ℕ). list_any (λ child. child == number) children) g

-- these marks stand at the modules that some module has an instance of
pub record AreInstantiated (g : Graph) (marks : List Bool) : Type 0 where
  pub count : length marks ≡ length g
  pub each : (number : ℕ) → number < length g → slice_index_or marks number false ≡ is_instantiated g number

-- the modules that none has an instance of
abbrev pub top_numbers : Graph → List ℕ
top_numbers g = filter (λ number. not (is_instantiated g number)) (range_with_len 0 (length g))

-- this is the only one
abbrev pub IsTop : Graph → (top : ℕ) → Type 0
IsTop g top = top_numbers g ≡ top ∷ []

-- another number of them than 1 is told
abbrev pub TellsTops : Graph → HierError → Type 0
TellsTops g (told.H4 count) = (count ≡ length (top_numbers g)) × (count ≢ 1)
TellsTops g (told.Memory error) = Unit {0}
TellsTops g _ = ⊥
