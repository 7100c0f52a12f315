-- Cells of a library: found by name, found by kind.
use Rattle.std.specs.Prelude.{◌≡◌, ℕ, ◌+◌, ◌<◌, List, [], ◌∷◌, slice_get, Option, Some, None, if◌then◌else◌}
use Rattle.std.specs.Str.{bytes_eq}
use Rattle.dft_cells.specs.declared.kind.Kind.{Kind}
use Rattle.dft_cells.specs.declared.cell.CellId.{CellId}
use Rattle.dft_cells.specs.declared.cell.Cell.{Cell}

-- the number of the first of these cells with this name; the first of them has the number `from`
abbrev pub find_from : ℕ → List Cell → List ℕ → Option CellId
find_from from [] name = None
find_from from (cell ∷ cells) name = if bytes_eq cell.name name then Some (record { 0 = from }) else find_from (from + 1) cells name

-- the number of the cell with this name
abbrev pub find_cell : List Cell → List ℕ → Option CellId
find_cell cells name = find_from 0 cells name

-- no cell has this name
abbrev pub NoneNamed : List Cell → List ℕ → Type 0
NoneNamed cells name = (place : ℕ) (cell : Cell) → slice_get cells place ≡ Some cell → cell.name ≡ name → ⊥

-- the cell of this number has this name
abbrev pub IsNamed : List Cell → List ℕ → CellId → Type 0
IsNamed cells name id = (cell : Cell) × (slice_get cells id.0 ≡ Some cell) × (cell.name ≡ name)

-- none of the first cells, as many as this number, has this kind
abbrev pub NoneBefore : List Cell → Kind → ℕ → Type 0
NoneBefore cells kind number = (place : ℕ) (cell : Cell) → place < number → slice_get cells place ≡ Some cell → cell.kind ≡ kind → ⊥

-- the cell of this number has this kind, and none before it has
pub record IsFirstOf (cells : List Cell) (kind : Kind) (id : CellId) : Type 0 where
  pub cell : Cell
  pub at : slice_get cells id.0 ≡ Some cell
  pub kind_is : cell.kind ≡ kind
  pub before : NoneBefore cells kind id.0
