-- The instances of a design, as they are written, drive what they drove, moved, and the nets at outputs that were joined to nothing.
use Rattle.std.proofs.Common.{◌≡◌, true, List, map, Option, None, Some, is_some, option_and_then, slice_get, MatchOption, refl, sym, subst, ap, ◌∙◌}
use Rattle.dft_cells.specs.declared.cell.Cell.{Cell}
use Rattle.dft_cells.specs.declared.cell.CellId.{CellId}
use Rattle.dft_cells.specs.WellFormed.{IsWellFormed, IsScanCell, role_of}
use Rattle.dft_netlist.specs.declared.instance.CellRef.{CellRef}
use Rattle.dft_netlist.specs.declared.instance.CellRef.TheVariants.{Library, Gate}
use Rattle.dft_netlist.specs.Drivers.{shape_of, shape_of_cell}
use Rattle.dft_rules.specs.Rules.{scan_cell_in}
use Rattle.dft_scan_frame.proofs.ScanPairs.{ScanPair}
use Rattle.dft_scan_frame.proofs.Pairs.{roles_of_shared, pair_of}

-- ---- a cell that names a scan cell

-- it names a scan cell, and they are a pair
pub record HasPair (library : List Cell) (ref : CellRef) : Type 0 where
  pub id : CellId
  pub names : scan_cell_in library ref ≡ Some id
  pub pair : ScanPair (shape_of library ref).kind (shape_of library ref).roles (shape_of library (Library id)).kind (shape_of library (Library id)).roles

pair_named : (library : List Cell) (c : CellId) (cell : Cell) (id : CellId) → slice_get library c.0 ≡ Some cell → cell.scan ≡ Some id → IsWellFormed library → IsScanCell library cell id → HasPair library (Library c)
pair_named library c cell id at is whole scan = record {
  id = id;
  names = ap (option_and_then (λ (x : Cell). x.scan)) at ∙ is;
  pair = subst (λ (o : Option Cell). ScanPair (shape_of_cell o).kind (shape_of_cell o).roles (shape_of library (Library id)).kind (shape_of library (Library id)).roles) (sym at)
      (subst (λ (o : Option Cell). ScanPair cell.kind (map role_of cell.pins) (shape_of_cell o).kind (shape_of_cell o).roles) (sym scan.at)
      (pair_of cell.kind scan.other.kind (map role_of cell.pins) (map role_of scan.other.pins) scan.fits (whole.each id.0 scan.other scan.at).roles (ap (map role_of) (sym scan.shared) ∙ roles_of_shared scan.other.pins)));
}

pair_by : (library : List Cell) (c : CellId) (cell : Cell) (scan : Option CellId) → slice_get library c.0 ≡ Some cell → cell.scan ≡ scan → is_some scan ≡ true → IsWellFormed library → MatchOption scan (Unit {0}) (IsScanCell library cell) → HasPair library (Library c)
pair_by library c cell None at is some whole scan = absurd cc
pair_by library c cell (Some id) at is some whole scan = pair_named library c cell id at is whole scan

pair_at : (library : List Cell) (c : CellId) (o : Option Cell) → slice_get library c.0 ≡ o → is_some (option_and_then (λ (x : Cell). x.scan) o) ≡ true → IsWellFormed library → HasPair library (Library c)
pair_at library c None at some whole = absurd cc
pair_at library c (Some cell) at some whole = pair_by library c cell cell.scan at refl some whole (whole.scans c.0 cell at)

pub has_pair : (library : List Cell) (ref : CellRef) → is_some (scan_cell_in library ref) ≡ true → IsWellFormed library → HasPair library ref
has_pair library (Library c) some whole = pair_at library c (slice_get library c.0) refl some whole
has_pair library (Gate kind inputs) some whole = absurd cc
