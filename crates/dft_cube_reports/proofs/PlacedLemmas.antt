-- What became of a cube of those that are placed.
use Rattle.std.proofs.Common.{ℕ, zero, suc, ◌≡◌, List, [], ◌∷◌, Some, slice_get, refl, subst}
use Rattle.std.proofs.lemmas.Option.{none-some, same_Some}
use Rattle.dft_cubes.specs.declared.cube.Cube.{Cube}
use Rattle.dft_cubes.specs.declared.cube.Merged.{Merged}
use Rattle.dft_merge.specs.declared.placed.Placed.{Placed}
use Rattle.dft_merge.specs.Placement.{Places, PlacesAll}
use Rattle.dft_merge.specs.Rows.{CellRows}

-- this became of the cube at a place, behind these patterns
pub record Step (columns : ℕ) (row : CellRows) (window : ℕ) (placed : List Placed) (c : ℕ) (cube : Cube) : Type 0 where
  pub told : Placed
  pub at : slice_get placed c ≡ Some told
  pub old : List Merged
  pub new : List Merged
  pub places : Places columns row window old cube told new

pub step_at : (columns : ℕ) (row : CellRows) (window : ℕ) (old new : List Merged) (cubes : List Cube) (placed : List Placed) → PlacesAll columns row window old cubes placed new → (c : ℕ) (cube : Cube) → slice_get cubes c ≡ Some cube → Step columns row window placed c cube
step_at columns row window old new [] placed places c cube at = absurd (none-some cube at)
step_at columns row window old new (x ∷ cubes) [] places c cube at = absurd places
step_at columns row window old new (x ∷ cubes) (w ∷ placed) places zero cube at = record {
  told = w;
  at = refl;
  old = old;
  new = places.0;
  places = subst (λ (y : Cube). Places columns row window old y w places.0) (same_Some x cube at) places.1.0;
}
step_at columns row window old new (x ∷ cubes) (w ∷ placed) places (suc c) cube at =
    let more = step_at columns row window places.0 new cubes placed places.1.1 c cube at in
    record { told = more.told; at = more.at; old = more.old; new = more.new; places = more.places }
