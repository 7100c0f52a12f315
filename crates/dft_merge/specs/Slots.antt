-- What is kept of an open pattern beside its lists.
use Rattle.std.specs.Prelude.{ℕ, Bool, ◌≡◌, ◌+◌, ◌-◌, ◌<◌, ◌≤◌, List, [], ◌∷◌, ◌++◌, length, drop, Option, None, Some, slice_get, slice_set}
use Rattle.dft_base.specs.Solutions.{IsSolvable}
use Rattle.dft_netlist.specs.declared.ids.InstanceId.{InstanceId}
use Rattle.dft_stitch.specs.Plans.{cell_at}
use Rattle.dft_equations.specs.LoadRows.{LoadRows, IsCell, row_of}
use Rattle.dft_gf2.specs.Elimination.{Elimination}
use Rattle.dft_cubes.specs.declared.cube.Cube.{Cube}
use Rattle.dft_cubes.specs.declared.cube.Merged.{Merged}
use Rattle.dft_merge.specs.declared.slot.Slot.{Slot}
use Rattle.dft_merge.specs.Rows.{CellRows, StandApart}
use Rattle.dft_merge.specs.Placement.{Fits, cell_number, port_number, equations_of, first_unscanned, joined}
use Rattle.dft_merge.specs.Systems.{IsSystem}
use Rattle.dft_merge.specs.Tables.{IsTable}

-- each place of the chains has a load equation with a bit for each column, and no cell stands at two places
pub record AreRows (chains : List (List InstanceId)) (rows : LoadRows) : Type 0 where
  pub cells : (chain place : ℕ) (cell : InstanceId) → cell_at chains chain place ≡ Some cell → IsCell rows chain place
  pub wide : (chain place : ℕ) (cell : InstanceId) → cell_at chains chain place ≡ Some cell → length (row_of rows chain place) ≡ rows.columns
  pub apart : StandApart chains

-- the system has the equations of the pattern's cells, and the tables its bits
pub record IsSlot (n : ℕ) (row : CellRows) (pattern : Merged) (slot : Slot) : Type 0 where
  pub system : IsSystem n (equations_of row pattern.cells) slot.system
  pub cells : IsTable cell_number pattern.cells slot.cells.items
  pub ports : IsTable port_number pattern.ports slot.ports.items

-- there is a slot for each pattern from the first open one on
pub record AreSlots (n : ℕ) (row : CellRows) (first : ℕ) (patterns : List Merged) (slots : List Slot) : Type 0 where
  pub count : first + length slots ≡ length patterns
  pub each : (j : ℕ) (slot : Slot) (pattern : Merged) → slice_get slots j ≡ Some slot → slice_get patterns (first + j) ≡ Some pattern → IsSlot n row pattern slot

-- the cells of each pattern are scanned, and some channel bits load them
pub record IsLoadable (n : ℕ) (row : CellRows) (pattern : Merged) : Type 0 where
  pub scanned : first_unscanned row pattern.cells ≡ None
  pub solvable : IsSolvable n (equations_of row pattern.cells)

abbrev pub AreLoadable : ℕ → CellRows → List Merged → Type 0
AreLoadable n row patterns = (p : ℕ) (pattern : Merged) → slice_get patterns p ≡ Some pattern → IsLoadable n row pattern

-- none of the patterns from the first open one on, up to this one, fits the cube
abbrev pub NoneFrom : ℕ → CellRows → (first : ℕ) → List Merged → Cube → (before : ℕ) → Type 0
NoneFrom n row first patterns cube p = (q : ℕ) (pattern : Merged) → first ≤ q → q < p → slice_get patterns q ≡ Some pattern → Fits n row pattern cube → ⊥

-- the cube is in this pattern, the first from there on that it fits
pub record IsJoined (n : ℕ) (row : CellRows) (first : ℕ) (old : List Merged) (cube : Cube) (new : List Merged) (p : ℕ) : Type 0 where
  pub pattern : Merged
  pub is : slice_get old p ≡ Some pattern
  pub open_is : first ≤ p
  pub fits : Fits n row pattern cube
  pub before : NoneFrom n row first old cube p
  pub patterns : new ≡ slice_set old p (joined pattern cube)

-- the system of each slot has so many columns
abbrev pub HaveColumns : ℕ → List Slot → Type 0
HaveColumns n slots = (j : ℕ) (slot : Slot) → slice_get slots j ≡ Some slot → slot.system.columns ≡ n

-- behind so many slots there is one more, up to the window
abbrev pub IsNextCount : (window old new : ℕ) → Type 0
IsNextCount window old new = (old < window → new ≡ old + 1) × (window ≤ old → new ≡ old)

-- the last slot may be used for another pattern: it is a new one, or was the oldest, where the window is full
pub record HasPlace (n window : ℕ) (old new : List Slot) : Type 0 where
  pub slot : Slot
  pub columns : slot.system.columns ≡ n
  pub more : length old < window → new ≡ old ++ slot ∷ []
  pub same : window ≤ length old → new ≡ drop 1 old ++ slot ∷ []

-- the last slot has these tables and this system, which has that slot's in exchange
pub record IsPut (cells ports : List (Option Bool)) (system : Elimination) (old : List Slot) (new_system : Elimination) (new : List Slot) : Type 0 where
  pub last : Slot
  pub is : slice_get old (length old - 1) ≡ Some last
  pub exchanged : new_system ≡ last.system
  pub slot : Slot
  pub system_is : slot.system ≡ system
  pub cells_are : slot.cells.items ≡ cells
  pub ports_are : slot.ports.items ≡ ports
  pub slots : new ≡ slice_set old (length old - 1) slot
