-- What placement leaves in patterns: all that a cube gave, and nothing that no cube gave.
use Rattle.std.specs.Prelude.{ℕ, Bool, ◌≡◌, ◌<◌, List, [], length, None, Some, slice_get}
use Rattle.std.specs.List.{AllByRecursion}
use Rattle.dft_netlist.specs.Netlist.{Netlist}
use Rattle.dft_config.specs.Config.{Config}
use Rattle.dft_cubes.specs.declared.cube.Cube.{Cube}
use Rattle.dft_cubes.specs.declared.cube.Merged.{Merged}
use Rattle.dft_cubes.specs.Domains.{captured}
use Rattle.dft_cubes.specs.Laws.{AreCells, AreCubes, ArePorts}
use Rattle.dft_merge.specs.declared.placed.Placed.{Placed}
use Rattle.dft_merge.specs.declared.placed.Placed.TheVariants.{Into}
use Rattle.dft_merge.specs.Rows.{CellRows}
use Rattle.dft_merge.specs.Placement.{PlacesAll, first_unscanned}

-- each bit that one list gives is given by the other
abbrev pub AllIn : {T : Type 0} → (these those : List (T × Bool)) → Type 0
AllIn these those = (k : ℕ) (given : _) → slice_get these k ≡ Some given → (j : ℕ) × (slice_get those j ≡ Some given)

-- the pattern captures the domains of the cube, and gives each cell and each port of the cube the cube's bit
pub record HoldsCube (pattern : Merged) (cube : Cube) : Type 0 where
  pub domains : pattern.domains ≡ cube.domains
  pub cells : AllIn cube.cells pattern.cells
  pub ports : AllIn cube.ports pattern.ports

-- the pattern with this number holds the cube, whose cells are scanned
pub record IsIn (row : CellRows) (patterns : List Merged) (p : ℕ) (cube : Cube) : Type 0 where
  pub pattern : Merged
  pub is : slice_get patterns p ≡ Some pattern
  pub holds : HoldsCube pattern cube
  pub scanned : first_unscanned row cube.cells ≡ None

-- Where a cube was placed in a pattern, the pattern of that number holds it behind all cubes: nothing is taken out of a pattern.
abbrev pub CubesStay : Type 0
CubesStay =
    (n : ℕ) (row : CellRows) (window : ℕ) (cubes : List Cube) (placed : List Placed) (patterns : List Merged) → PlacesAll n row window [] cubes placed patterns →
    (c p : ℕ) (cube : Cube) → slice_get cubes c ≡ Some cube → slice_get placed c ≡ Some (Into p) → IsIn row patterns p cube

-- each clock is a domain of the configuration; no cell and no port is given twice, each cell is an instance with a name, and each port the bit of an
-- input port that is no clock and no reset
pub record IsMerged (n : Netlist) (config : Config) (pattern : Merged) : Type 0 where
  pub domains : AllByRecursion (λ domain. domain < length config.domains) (captured pattern.domains)
  pub cells : AreCells n pattern.cells
  pub ports : ArePorts n config pattern.ports

-- Patterns of sound cubes are sound.
abbrev pub PatternsAreSound : Type 0
PatternsAreSound =
    (n : Netlist) (config : Config) (columns : ℕ) (row : CellRows) (window : ℕ) (cubes : List Cube) (placed : List Placed) (patterns : List Merged) →
    AreCubes n config cubes → PlacesAll columns row window [] cubes placed patterns → (p : ℕ) (pattern : Merged) → slice_get patterns p ≡ Some pattern → IsMerged n config pattern
