-- What the compared bits of a vector find in each lane.
use Rattle.std.specs.Prelude.{ℕ, Bool, true, false, ◌≡◌, ◌<◌, ◌⊎◌, ◌&&◌, List, Option, None, Some, slice_index_or, if◌then◌else◌}
use Rattle.dft_base.specs.declared.tri.Tri.{Tri}
use Rattle.dft_base.specs.declared.tri.Tri.TheVariants.{Zero, One, Unknown}
use Rattle.dft_lanes.specs.declared.wide.Wide.{Wide}
use Rattle.dft_evaluator.specs.Wides.{value_in, values_in}
use Rattle.dft_replay.specs.declared.verdict.Unknowns.TheVariants.{Skip}
use Rattle.dft_replay.specs.declared.verdict.Verdict.TheVariants.{Mismatch}
use Rattle.dft_replay.specs.Rows.{Compared}
use Rattle.dft_replay.specs.Verdicts.{bits_decide}
use Rattle.dft_grade.specs.declared.found.Grade.{Grade}
use Rattle.dft_grade.specs.declared.found.Grade.TheVariants.{Detected}

abbrev pub is_one : Tri → Bool
is_one One = true
is_one Zero = false
is_one Unknown = false

-- a value is known to be the opposite of what is printed
abbrev pub is_opposite : (printed : Bool) → Tri → Bool
is_opposite true Zero = true
is_opposite true One = false
is_opposite true Unknown = false
is_opposite false Zero = false
is_opposite false One = true
is_opposite false Unknown = false

-- the grade that was found in a lane, and none past the end
abbrev pub found_at : List (Option Grade) → (lane : ℕ) → Option Grade
found_at found lane = slice_index_or found lane None

-- These lanes get the grade and are live no more, and all others stay as they are.
pub record AreMarked (grade : Grade) (hit : (lane : ℕ) → Bool) (live : Wide) (found : List (Option Grade)) (live_now : Wide) (found_now : List (Option Grade)) : Type 0 where
  pub lives : (lane : ℕ) → lane < 512 → value_in live_now lane ≡ (if hit lane then Zero else value_in live lane)
  pub finds : (lane : ℕ) → lane < 512 → found_at found_now lane ≡ (if hit lane then Some grade else found_at found lane)

-- a live lane in which a net is known to have the opposite of what is printed
abbrev pub differs_in : (printed : Bool) → (wide live : Wide) → (lane : ℕ) → Bool
differs_in printed wide live lane = is_one (value_in live lane) && is_opposite printed (value_in wide lane)

-- in a lane that was live, the bits decide nothing and it stays live, or its grade is what they decide and it is live no more
abbrev pub IsDecided : (values : ℕ → Tri) → (vector : ℕ) → List Compared → (live : Bool) → (old new : Option Grade) → Type 0
IsDecided values v compared live old new =
    ((bits_decide Skip values v compared ≡ None) × ((live ≡ true) × (new ≡ old)))
    ⊎ ((signal : ℕ) × ((bits_decide Skip values v compared ≡ Some (Mismatch v signal)) × ((live ≡ false) × (new ≡ Some (Detected v signal)))))

-- The same of each lane; one that was not live stays as it is.
pub record AreCompared (wides : List Wide) (vector : ℕ) (compared : List Compared) (live : Wide) (found : List (Option Grade)) (live_now : Wide) (found_now : List (Option Grade)) : Type 0 where
  pub lives : (lane : ℕ) → lane < 512 → is_one (value_in live lane) ≡ true → IsDecided (values_in wides lane) vector compared (is_one (value_in live_now lane)) (found_at found lane) (found_at found_now lane)
  pub rests : (lane : ℕ) → lane < 512 → is_one (value_in live lane) ≡ false → (is_one (value_in live_now lane) ≡ false) × (found_at found_now lane ≡ found_at found lane)
