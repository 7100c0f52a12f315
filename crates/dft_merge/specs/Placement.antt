-- How test cubes are put together into patterns: a cube goes into the oldest open pattern that it fits, or else begins one (static compaction).
use Rattle.std.specs.Prelude.{ℕ, suc, ◌≡◌, ◌<◌, ◌≤◌, ◌-◌, ◌⊎◌, ◌==◌, Bool, false, if◌then◌else◌, List, [], ◌∷◌, ◌++◌, length, filter, Option, None, Some, is_none, unwrap_or, slice_get, slice_set}
use Rattle.std.specs.List.{list_any}
use Rattle.dft_base.specs.Solutions.{Equation, IsSolvable, StatesCertificate, sum_over, xor}
use Rattle.dft_netlist.specs.declared.ids.InstanceId.{InstanceId}
use Rattle.dft_netlist.specs.declared.ids.NetId.{NetId}
use Rattle.dft_cubes.specs.declared.cube.Cube.{Cube}
use Rattle.dft_cubes.specs.declared.cube.Merged.{Merged}
use Rattle.dft_merge.specs.declared.placed.Placed.{Placed}
use Rattle.dft_merge.specs.declared.placed.Placed.TheVariants.{Into, Unsolvable, Skipped}
use Rattle.dft_merge.specs.Rows.{CellRows}

-- ---- equations

-- what the bits of cells ask of the channels: that each cell's load equation sums to its bit; an equation is named by the cell's position
abbrev pub equations_from : CellRows → (position : ℕ) → List (InstanceId × Bool) → List Equation
equations_from row k [] = []
equations_from row k (given ∷ cells) = record { row = unwrap_or (row given.0) []; bit = given.1; id = k } ∷ equations_from row (suc k) cells

abbrev pub equations_of : CellRows → List (InstanceId × Bool) → List Equation
equations_of row cells = equations_from row 0 cells

-- the channel bits load the cells: over each cell's load equation they sum to its bit
abbrev pub Loads : ℕ → CellRows → (bits : ℕ → Bool) → List (InstanceId × Bool) → Type 0
Loads n row bits cells = (k : ℕ) (given : InstanceId × Bool) → slice_get cells k ≡ Some given → sum_over n (unwrap_or (row given.0) []) bits ≡ given.1

-- the first cell that is not scanned
abbrev pub first_unscanned : CellRows → List (InstanceId × Bool) → Option InstanceId
first_unscanned row [] = None
first_unscanned row (given ∷ cells) = if is_none (row given.0) then Some given.0 else first_unscanned row cells

-- ---- bits of cells and of ports

abbrev pub cell_number : InstanceId → ℕ
cell_number cell = cell.0

abbrev pub port_number : NetId → ℕ
port_number port = port.0

-- the bit that a list gives to a number, if it gives one
abbrev pub bit_in : {T : Type 0} → (number : T → ℕ) → List (T × Bool) → ℕ → Option Bool
bit_in number [] k = None
bit_in number (given ∷ more) k = if number given.0 == k then Some given.1 else bit_in number more k

abbrev pub is_opposite : Option Bool → Bool → Bool
is_opposite None b = false
is_opposite (Some a) b = xor a b

-- whether a cube gives something the opposite of a pattern's bit
abbrev pub has_opposite : {T : Type 0} → (number : T → ℕ) → (pattern cube : List (T × Bool)) → Bool
has_opposite number pattern cube = list_any (λ given. is_opposite (bit_in number pattern (number given.0)) given.1) cube

-- what a cube gives and a pattern does not
abbrev pub missing : {T : Type 0} → (number : T → ℕ) → (pattern cube : List (T × Bool)) → List (T × Bool)
missing number pattern cube = filter (λ given. is_none (bit_in number pattern (number given.0))) cube

-- ---- patterns

-- a cube fits a pattern: both capture the same domains in the same order, no bit of a cell or of a port is opposite, and some channel bits load both
pub record Fits (n : ℕ) (row : CellRows) (pattern : Merged) (cube : Cube) : Type 0 where
  pub domains : pattern.domains ≡ cube.domains
  pub cells : has_opposite cell_number pattern.cells cube.cells ≡ false
  pub ports : has_opposite port_number pattern.ports cube.ports ≡ false
  pub solvable : IsSolvable n (equations_of row pattern.cells ++ equations_of row cube.cells)

-- the pattern with what the cube gives and it does not
abbrev pub joined : Merged → Cube → Merged
joined pattern cube = record {
  domains = pattern.domains;
  cells = pattern.cells ++ missing cell_number pattern.cells cube.cells;
  ports = pattern.ports ++ missing port_number pattern.ports cube.ports;
}

-- the pattern of a cube alone
abbrev pub begun : Cube → Merged
begun cube = record { domains = cube.domains; cells = cube.cells; ports = cube.ports }

-- of so many patterns the last ones are open, as many as the window has; this is the first of them
abbrev pub first_open : (window count : ℕ) → ℕ
first_open window count = count - window

-- no open pattern before this one fits the cube
abbrev pub NoneFits : ℕ → CellRows → (window : ℕ) → List Merged → Cube → (before : ℕ) → Type 0
NoneFits n row window patterns cube p =
    (q : ℕ) (pattern : Merged) → first_open window (length patterns) ≤ q → q < p → slice_get patterns q ≡ Some pattern → Fits n row pattern cube → ⊥

-- the cube goes into the oldest open pattern that it fits
pub record Joins (n : ℕ) (row : CellRows) (window : ℕ) (old : List Merged) (cube : Cube) (p : ℕ) (new : List Merged) : Type 0 where
  pub pattern : Merged
  pub is : slice_get old p ≡ Some pattern
  pub open_is : first_open window (length old) ≤ p
  pub fits : Fits n row pattern cube
  pub oldest : NoneFits n row window old cube p
  pub patterns : new ≡ slice_set old p (joined pattern cube)

-- the cube fits no open pattern, and begins one, since some channel bits load it
pub record Begins (n : ℕ) (row : CellRows) (window : ℕ) (old : List Merged) (cube : Cube) (p : ℕ) (new : List Merged) : Type 0 where
  pub alone : NoneFits n row window old cube (length old)
  pub solvable : IsSolvable n (equations_of row cube.cells)
  pub number : p ≡ length old
  pub patterns : new ≡ old ++ begun cube ∷ []

-- ---- placement

-- What becomes of a cube behind these patterns, and what the patterns are then. A cube that names a cell that is not scanned is skipped,
-- with the first such cell. Otherwise it goes into the oldest open pattern that it fits; otherwise it begins a pattern, where some
-- channel bits load it; otherwise it is unsolvable, with the stated certificate of its equations.
abbrev pub Places : ℕ → CellRows → (window : ℕ) → (old : List Merged) → Cube → Placed → (new : List Merged) → Type 0
Places n row window old cube (Skipped cell) new = (first_unscanned row cube.cells ≡ Some cell) × (new ≡ old)
Places n row window old cube (Into p) new = (first_unscanned row cube.cells ≡ None) × (Joins n row window old cube p new ⊎ Begins n row window old cube p new)
Places n row window old cube (Unsolvable ids) new = (first_unscanned row cube.cells ≡ None) × StatesCertificate n (equations_of row cube.cells) ids × (new ≡ old)

-- the cubes are placed one after another
abbrev pub PlacesAll : ℕ → CellRows → (window : ℕ) → (old : List Merged) → List Cube → List Placed → (new : List Merged) → Type 0
PlacesAll n row window old [] [] new = new ≡ old
PlacesAll n row window old [] (placed ∷ more) new = ⊥
PlacesAll n row window old (cube ∷ cubes) [] new = ⊥
PlacesAll n row window old (cube ∷ cubes) (placed ∷ more) new = (mid : List Merged) × (Places n row window old cube placed mid × PlacesAll n row window mid cubes more new)
