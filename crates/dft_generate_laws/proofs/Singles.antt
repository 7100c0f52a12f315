-- Each pattern of a job captures in one vector.
use Rattle.std.proofs.Common.{◌≡◌, ℕ, zero, suc, ◌+◌, inl, inr, List, [], ◌∷◌, map, None, Some, slice_get, refl, sym, ap, subst}
use Rattle.std.specs.List.{range_with_len}
use Rattle.std.proofs.lemmas.Option.{none-some, same_Some}
use Rattle.dft_cubes.specs.declared.cube.Cube.{Cube}
use Rattle.dft_cubes.specs.declared.cube.Merged.{Merged}
use Rattle.dft_merge.specs.declared.placed.Placed.{Placed}
use Rattle.dft_merge.specs.declared.placed.Placed.TheVariants.{Into, Skipped, Unsolvable}
use Rattle.dft_merge.specs.Placement.{Places, PlacesAll, begun, joined}
use Rattle.dft_merge.specs.Rows.{CellRows}
use Rattle.dft_merge.proofs.MergedLemmas.{kept_set}
use Rattle.dft_merge.proofs.SlotLemmas.{push_each}
use Rattle.dft_generate_laws.specs.CubeLists.{cube_in, cubes_in}

-- patterns without a second clock
abbrev pub AreSingle : List Merged → Type 0
AreSingle patterns = (p : ℕ) (pattern : Merged) → slice_get patterns p ≡ Some pattern → pattern.domains.second ≡ None

abbrev OfSingle : List Cube → Type 0
OfSingle cubes = (c : ℕ) (cube : Cube) → slice_get cubes c ≡ Some cube → cube.domains.second ≡ None

place_single : (columns : ℕ) (row : CellRows) (window : ℕ) (old new : List Merged) (cube : Cube) (placed : Placed) → cube.domains.second ≡ None → Places columns row window old cube placed new → AreSingle old → AreSingle new
place_single columns row window old new cube (Skipped cell) single places all = subst AreSingle (sym places.1) all
place_single columns row window old new cube (Into p) single (scanned, inl joins) all =
    subst AreSingle (sym joins.patterns) (kept_set (λ pattern. pattern.domains.second ≡ None) old p joins.pattern (joined joins.pattern cube) joins.is (all p joins.pattern joins.is) all)
place_single columns row window old new cube (Into p) single (scanned, inr begins) all = subst AreSingle (sym begins.patterns) (push_each (λ k pattern. pattern.domains.second ≡ None) old (begun cube) all single)
place_single columns row window old new cube (Unsolvable ids) single places all = subst AreSingle (sym places.2) all

place_all : (columns : ℕ) (row : CellRows) (window : ℕ) (old new : List Merged) (cubes : List Cube) (placed : List Placed) → OfSingle cubes → PlacesAll columns row window old cubes placed new → AreSingle old → AreSingle new
place_all columns row window old new [] [] single places all = subst AreSingle (sym places) all
place_all columns row window old new [] (word ∷ placed) single places all = absurd places
place_all columns row window old new (cube ∷ cubes) [] single places all = absurd places
place_all columns row window old new (cube ∷ cubes) (word ∷ placed) single places all =
    place_all columns row window places.0 new cubes placed (λ c a at. single (suc c) a at) places.1.1 (place_single columns row window old places.0 cube word (single zero cube refl) places.1.0 all)

cubes_single : (size : ℕ) (words : List ℕ) (from count c : ℕ) (cube : Cube) → slice_get (map (cube_in size words) (range_with_len from count)) c ≡ Some cube → cube.domains.second ≡ None
cubes_single size words from zero c cube at = absurd (none-some cube at)
cubes_single size words from (suc count) zero cube at = ap (λ (a : Cube). a.domains.second) (sym (same_Some (cube_in size words from) cube at))
cubes_single size words from (suc count) (suc c) cube at = cubes_single size words (from + 1) count c cube at

pub patterns_single : (size : ℕ) (words : List ℕ) (columns : ℕ) (row : CellRows) (window : ℕ) (placed : List Placed) (patterns : List Merged) → PlacesAll columns row window [] (cubes_in size words) placed patterns → AreSingle patterns
patterns_single size words columns row window placed patterns places = place_all columns row window [] patterns (cubes_in size words) placed (cubes_single size words 0 _) places (λ p pattern at. absurd (none-some pattern at))
