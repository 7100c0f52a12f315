-- The cubes so far are placed, and have names.
use Rattle.std.proofs.Common.{◌≡◌, ℕ, ◌<◌, Some, slice_get}
use Rattle.dft_base.specs.Name.{IsName}
use Rattle.dft_cubes.specs.declared.cube.Cube.{Cube}
use Rattle.dft_encode.proofs.PlacingLemmas.{Placing}
use Rattle.dft_encode.proofs.placing.place_all.Given as goal

abbrev pub invariant-loop-cube : goal.invariant-loop-cube
invariant-loop-cube l = Placing l.initial.merger l.cube-index l.cubes l.placed.items l.merger × ((k : ℕ) (x : Cube) → k < l.cube-index → slice_get l.cubes k ≡ Some x → IsName x.name)
