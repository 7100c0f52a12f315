-- What every library keeps: the pins of each kind in their order, names that differ, and scan cells that fit.
use Rattle.std.specs.Prelude.{◌≡◌, ℕ, ◌≤◌, Bool, true, false, not, ◌&&◌, ◌||◌, IsTrue, List, [], ◌∷◌, ◌++◌, map, length, replicate, slice_get, Option, Some, None, MatchOption, ◌⊎◌, if◌then◌else◌}
use Rattle.std.specs.Ordering.{nat_cmp, is_lt}
use Rattle.std.specs.Cmp.Lexicographic.{slice_cmp}
use Rattle.std.specs.List.{list_all}
use Rattle.std.specs.Str.{bytes_eq}
use Rattle.dft_base.specs.Names.{is_name}
use Rattle.dft_cells.specs.declared.kind.Kind.{Kind}
use Rattle.dft_cells.specs.declared.kind.Kind.TheVariants as kind
use Rattle.dft_cells.specs.declared.kind.TheConstants.{DFF}
use Rattle.dft_cells.specs.declared.kind.Flop.{Flop}
use Rattle.dft_cells.specs.declared.kind.Forcing.{Forcing}
use Rattle.dft_cells.specs.declared.kind.Forcing.TheVariants as force
use Rattle.dft_cells.specs.declared.kind.Role.{Role}
use Rattle.dft_cells.specs.declared.kind.Role.TheVariants.{Input, Clock, Din, Reset, Preset, ScanIn, ScanEnable, Output, Inverted}
use Rattle.dft_cells.specs.declared.cell.CellId.{CellId}
use Rattle.dft_cells.specs.declared.cell.Pin.{Pin}
use Rattle.dft_cells.specs.declared.cell.Cell.{Cell}
use Rattle.dft_cells.specs.declared.library.TheConstants.{MAX_CELLS}
pub use Rattle.dft_cells.specs.Pins.{TakesInputs}

-- the roles are some inputs, as many as the kind takes, and one output
abbrev pub GateRoles : (ℕ → Type 0) → List Role → Type 0
GateRoles takes roles = (n : ℕ) × takes n × (roles ≡ replicate n Input ++ Output ∷ [])

-- the roles are these, the output and perhaps the inverted output
abbrev pub FlipFlopRoles : List Role → List Role → Type 0
FlipFlopRoles front roles = (roles ≡ front ++ Output ∷ []) ⊎ (roles ≡ front ++ Output ∷ Inverted ∷ [])

-- the role of the pin of a reset or a set
abbrev pub force_roles : Forcing → List Role
force_roles force.Nothing = []
force_roles force.Reset = Reset ∷ []
force_roles force.Set = Preset ∷ []

-- the roles of the scan pins
abbrev pub scan_roles : (scan : Bool) → List Role
scan_roles true = ScanIn ∷ ScanEnable ∷ []
scan_roles false = []

-- the roles of a flip-flop's pins before its outputs
abbrev pub front_roles : Flop → List Role
front_roles flop = Clock ∷ Din ∷ force_roles flop.force ++ scan_roles flop.scan

-- the roles of the pins of a kind, in order
abbrev pub HasRoles : Kind → List Role → Type 0
HasRoles (kind.Gate gate) = GateRoles (TakesInputs gate)
HasRoles (kind.Flop flop) = FlipFlopRoles (front_roles flop)
HasRoles kind.Lockup = λ roles. roles ≡ Clock ∷ Din ∷ Output ∷ []
HasRoles kind.Opaque = λ roles. (n m : ℕ) × (roles ≡ replicate n Input ++ replicate m Output)

-- the role and the name of a pin
abbrev pub role_of : Pin → Role
role_of pin = pin.role

abbrev pub pin_name : Pin → List ℕ
pin_name pin = pin.name

abbrev pub cell_name : Cell → List ℕ
cell_name cell = cell.name

-- whether a name stands among these
abbrev pub has_name : List (List ℕ) → List ℕ → Bool
has_name [] name = false
has_name (other ∷ names) name = bytes_eq other name || has_name names name

-- whether no name stands twice among these
abbrev pub all_differ : List (List ℕ) → Bool
all_differ [] = true
all_differ (name ∷ names) = not (has_name names name) && all_differ names

-- whether a name comes before the first of these
abbrev pub comes_before : List ℕ → List (List ℕ) → Bool
comes_before name [] = true
comes_before name (next ∷ names) = is_lt (slice_cmp nat_cmp name next)

-- whether the names stand in byte order, each once
abbrev pub ascend : List (List ℕ) → Bool
ascend [] = true
ascend (name ∷ names) = comes_before name names && ascend names

-- the pins are those of the cell's kind, their names differ, and these and the cell's name are names
pub record IsCell (cell : Cell) : Type 0 where
  pub roles : HasRoles cell.kind (map role_of cell.pins)
  pub differ : IsTrue (all_differ (map pin_name cell.pins))
  pub named : IsTrue (list_all is_name (cell.name ∷ map pin_name cell.pins))

-- the scan kind that replaces a flip-flop's kind
abbrev pub scan_kind : Kind → Option Kind
scan_kind (kind.Flop flop) = if flop.scan then None else Some (kind.Flop (record flop { scan = true }))
scan_kind _ = None

-- whether a pin is there for scan alone
abbrev pub is_scan_role : Role → Bool
is_scan_role ScanIn = true
is_scan_role ScanEnable = true
is_scan_role _ = false

-- the pins that a scan cell shares with the flip-flop that it replaces
abbrev pub shared_pins : List Pin → List Pin
shared_pins [] = []
shared_pins (pin ∷ pins) = if is_scan_role pin.role then shared_pins pins else pin ∷ shared_pins pins

-- the cell of this number has the cell's scan kind, and but for its scan pins it has the cell's pins
pub record IsScanCell (cells : List Cell) (cell : Cell) (id : CellId) : Type 0 where
  pub other : Cell
  pub at : slice_get cells id.0 ≡ Some other
  pub fits : scan_kind cell.kind ≡ Some other.kind
  pub shared : shared_pins other.pins ≡ cell.pins

-- where the cell names a scan cell, it is one
abbrev pub HasScanCell : List Cell → Cell → Type 0
HasScanCell cells cell = MatchOption cell.scan (Unit {0}) (IsScanCell cells cell)

-- some cell has this kind
abbrev pub HasKind : List Cell → Kind → Type 0
HasKind cells kind = (place : ℕ) × (cell : Cell) × (slice_get cells place ≡ Some cell) × (cell.kind ≡ kind)

-- what every library keeps
pub record IsWellFormed (cells : List Cell) : Type 0 where
  pub count : length cells ≤ MAX_CELLS
  pub names : IsTrue (ascend (map cell_name cells))
  pub each : (place : ℕ) (cell : Cell) → slice_get cells place ≡ Some cell → IsCell cell
  pub scans : (place : ℕ) (cell : Cell) → slice_get cells place ≡ Some cell → HasScanCell cells cell
  pub dff : HasKind cells DFF
  pub lockup : HasKind cells kind.Lockup
