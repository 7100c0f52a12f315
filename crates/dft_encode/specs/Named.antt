-- Cubes have names.
use Rattle.std.specs.Prelude.{ℕ, ◌≡◌, List, Some, slice_get}
use Rattle.dft_base.specs.Name.{IsName}
use Rattle.dft_cubes.specs.declared.cube.Cube.{Cube}

-- the names of cubes are names
abbrev pub AreCubesNamed : List Cube → Type 0
AreCubesNamed cubes = (place : ℕ) (cube : Cube) → slice_get cubes place ≡ Some cube → IsName cube.name
