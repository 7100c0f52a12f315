-- The steps in which a list of vectors is made.
use Rattle.std.specs.Prelude.{ℕ, List, [], ◌∷◌, ◌++◌, Option}
use Rattle.dft_patterns.specs.declared.act.Act.{Act}
use Rattle.dft_config.specs.Ring.{Table}
use Rattle.dft_vectors.specs.PatternData.{PatternData}
use Rattle.dft_vectors.specs.Listing.{Listing}
use Rattle.dft_vectors.specs.VectorList.{set_up_acts, load_vectors}

-- the vectors so far of patterns with so many captures each; before the first pattern the set-up vector comes
abbrev pub set_up_at : (captures : List ℕ) → List Act → List (List Act) → List (List Act)
set_up_at [] acts vectors = vectors ++ acts ∷ []
set_up_at (count ∷ captures) acts vectors = vectors

abbrev pub begun_by : Listing → List (List Act)
begun_by l = set_up_at l.captures (set_up_acts l.design l.config) l.vectors

-- behind these patterns the last load comes, where there is a pattern; its channels have these bits
abbrev pub unload_at : (captures : List ℕ) → (load vectors : List (List Act)) → List (List Act)
unload_at [] load vectors = vectors
unload_at (count ∷ captures) load vectors = vectors ++ load

abbrev pub ended_by : Listing → Table → (last : Option PatternData) → List (List Act)
ended_by l load last = unload_at l.captures (load_vectors l.design l.config l.plan load [] last) l.vectors
