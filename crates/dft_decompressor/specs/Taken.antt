-- The sets that a pass has taken.
use Rattle.std.specs.Prelude.{ℕ, List, [], ◌∷◌, ◌++◌, if◌then◌else◌}
use Rattle.dft_decompressor.specs.Phases.{may_follow}

-- those over a ring of so many stages
pub record TakenSets : Type 0 where
  pub stages : ℕ
  pub sets : List (List ℕ)

-- the sets after one more, which is taken where it may follow
abbrev pub after_set : (stages bound : ℕ) → (taken : List (List ℕ)) → (set : List ℕ) → List (List ℕ)
after_set stages bound taken set = if may_follow stages bound taken set then taken ++ set ∷ [] else taken
