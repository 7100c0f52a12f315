-- Test cubes as patterns: how the cubes are placed, and what the patterns are.
use Rattle.std.specs.Prelude.{ℕ, ◌≡◌, List, [], length, map, Some, slice_get}
use Rattle.dft_base.specs.Solutions.{IsChosen, bit_at}
use Rattle.dft_netlist.specs.Netlist.{Netlist}
use Rattle.dft_config.specs.Config.{Config}
use Rattle.dft_equations.specs.LoadRows.{LoadRows, AreLoadEquations}
use Rattle.dft_stitch.specs.Plans.{Plan, falling_head}
use Rattle.dft_cubes.specs.declared.cube.Cube.{Cube}
use Rattle.dft_cubes.specs.declared.cube.Merged.{Merged}
use Rattle.dft_expect.specs.Captures.{IsCapture}
use Rattle.dft_expect.specs.Loaded.{loaded_of}
use Rattle.dft_expect.specs.Masks.{always_of, by_chain, masks_of}
use Rattle.dft_merge.specs.declared.placed.Placed.{Placed}
use Rattle.dft_merge.specs.Fills.{fill_of}
use Rattle.dft_merge.specs.Placement.{Loads, PlacesAll, equations_of}
use Rattle.dft_merge.specs.Rows.{cell_row}
use Rattle.dft_vectors.specs.PatternData.{PatternData, load_of}
pub use Rattle.dft_vectors.specs.PatternData.{merged_of}

-- ---- cubes

-- The cubes are placed one after another over the load equations of the planned chains: a word for each cube, and what the patterns
-- are to load and to set.
pub record Placing (config : Config) (plan : Plan) (cubes : List Cube) : Type 0 where
  pub rows : LoadRows
  pub equations : AreLoadEquations config.ring (map (λ cells. length cells) plan.chains) (falling_head plan) plan.cycles rows
  pub placed : List Placed
  pub merged : List Merged
  pub is : PlacesAll rows.columns (cell_row plan.chains rows) config.window [] cubes placed merged

-- ---- patterns

-- A pattern is loaded by the bits that its equations and the fill rule choose, and they load all that its cubes ask; it captures what the
-- design does from them; and those chains are masked in which something is unknown, or that always are.
pub record IsPattern (n : Netlist) (config : Config) (plan : Plan) (rows : LoadRows) (number : ℕ) (p : PatternData) : Type 0 where
  pub bits : IsChosen rows.columns (equations_of (cell_row plan.chains rows) p.merged.cells) (fill_of config.fill number rows.columns) p.bits
  pub loads : Loads rows.columns (cell_row plan.chains rows) (bit_at p.bits) p.merged.cells
  pub captured : IsCapture n config plan.chains p.merged (loaded_of config.ring (load_of config p) plan.cycles (falling_head plan) plan.chains) p.response
  pub masks : p.masks ≡ masks_of (always_of config) (by_chain plan.chains p.response.cells)

-- the patterns are those of these merged cubes, one after another
pub record ArePatterns (n : Netlist) (config : Config) (plan : Plan) (rows : LoadRows) (joined : List Merged) (patterns : List PatternData) : Type 0 where
  pub merged : map merged_of patterns ≡ joined
  pub each : (number : ℕ) (p : PatternData) → slice_get patterns number ≡ Some p → IsPattern n config plan rows number p
