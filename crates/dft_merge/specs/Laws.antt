-- What placement tells of cubes and patterns.
use Rattle.std.specs.Prelude.{ℕ, Bool, ◌≡◌, ◌↔◌, List, [], None}
use Rattle.dft_netlist.specs.Netlist.{Netlist}
use Rattle.dft_config.specs.Config.{Config}
use Rattle.dft_config.specs.Range.{IsInRange}
use Rattle.dft_stitch.specs.Chains.{plan_of}
use Rattle.dft_cubes.specs.declared.cube.Cube.{Cube}
use Rattle.dft_cubes.specs.declared.cube.Merged.{Merged}
use Rattle.dft_merge.specs.declared.placed.Placed.{Placed}
use Rattle.dft_merge.specs.declared.placed.Placed.TheVariants.{Unsolvable}
use Rattle.dft_merge.specs.Rows.{CellRows, StandApart}
use Rattle.dft_merge.specs.Placement.{Loads, Places, PlacesAll, first_unscanned}

-- cubes have one placement: one word for each, and one list of patterns
abbrev pub PlacementIsOne : Type 0
PlacementIsOne =
    (n : ℕ) (row : CellRows) (window : ℕ) (cubes : List Cube) (placed others : List Placed) (patterns more : List Merged) →
    PlacesAll n row window [] cubes placed patterns → PlacesAll n row window [] cubes others more → (placed ≡ others) × (patterns ≡ more)

-- the word is that a cube is unsolvable, with some certificate
abbrev pub IsUnsolvable : Placed → Type 0
IsUnsolvable placed = (ids : List ℕ) × (placed ≡ Unsolvable ids)

-- a cube of scanned cells is unsolvable exactly where no channel bits load it
abbrev pub UnsolvableIsExact : Type 0
UnsolvableIsExact =
    (n : ℕ) (row : CellRows) (window : ℕ) (old new : List Merged) (cube : Cube) (placed : Placed) →
    first_unscanned row cube.cells ≡ None → Places n row window old cube placed new →
    IsUnsolvable placed ↔ ((bits : ℕ → Bool) → Loads n row bits cube.cells → ⊥)

-- no scanned cell of a design stands at two places of its chains
abbrev pub PlansStandApart : Type 0
PlansStandApart = (n : Netlist) (config : Config) → IsInRange config → StandApart (plan_of n config).chains
