-- The library that the table of a text stands for, or the first check that fails.
use Rattle.std.specs.Prelude.{◌≡◌, codes, ℕ, ◌+◌, Bool, true, false, not, ◌&&◌, List, [], ◌∷◌, map, slice_get, Option, Some, None, option_and_then, Result, Ok, Err, nat_le, if◌then◌else◌}
use Rattle.std.specs.List.{list_any}
use Rattle.std.specs.Str.{bytes_eq}
use Rattle.toml.specs.Data.{Members, no_members, member}
use Rattle.dft_toml.specs.Text.{IsTable, IsNoTable}
use Rattle.dft_toml.specs.Values.{has_only, table_at}
use Rattle.dft_cells.specs.declared.kind.Kind.{Kind}
use Rattle.dft_cells.specs.declared.kind.Kind.TheVariants as kind
use Rattle.dft_cells.specs.declared.cell.CellId.{CellId}
use Rattle.dft_cells.specs.declared.cell.Cell.{Cell}
use Rattle.dft_library_text.specs.declared.draft.Draft.{Draft}
use Rattle.dft_library_text.specs.declared.refusal.Flaw.{Flaw}
use Rattle.dft_library_text.specs.declared.refusal.LibraryError.{LibraryError}
use Rattle.dft_library_text.specs.declared.refusal.LibraryError.TheVariants as error
use Rattle.dft_cells.specs.declared.library.TheConstants.{MAX_CELLS}
pub use Rattle.dft_cells.specs.FlipFlops.{same_force, is_dff}
use Rattle.dft_cells.specs.Cells.{find_cell}
use Rattle.dft_cells.specs.WellFormed.{pin_name, shared_pins}
use Rattle.dft_library_text.specs.Refusals.{needed, checked, after, cons_ok, refusal_of}
use Rattle.dft_library_text.specs.Drafts.{draft_of}

-- how many keys a table has
abbrev pub key_count : Members → ℕ
key_count no_members = 0
key_count (member key value rest) = 1 + key_count rest

-- the table of the cells: it stands at the one key of the text, and has no more keys than a library may have cells
abbrev pub few : Members → Option Members
few cells = if nat_le (key_count cells) MAX_CELLS then Some cells else None

abbrev pub cells_table : Members → Option Members
cells_table table = if has_only (codes "cells" ∷ []) table then option_and_then few (table_at (codes "cells") table) else None

-- what a cell's name and value give, with the refusal of a cell that has a flaw
abbrev pub judged : List ℕ → Result Draft Flaw → Result Draft LibraryError
judged name (Ok draft) = Ok draft
judged name (Err flaw) = Err (refusal_of name flaw)

-- the drafts of all cells, in byte order of their names; the first cell with a flaw is refused
abbrev pub drafts_of : Members → Result (List Draft) LibraryError
drafts_of no_members = Ok []
drafts_of (member name value rest) = cons_ok (judged name (draft_of name value)) (drafts_of rest)

-- the cell of a draft, with this scan cell
abbrev pub cell_with : Option CellId → Draft → Cell
cell_with scan draft = record { name = draft.name; kind = draft.kind; pins = draft.pins; scan = scan }

-- whether the second kind is the scan kind that replaces the first
abbrev pub are_scan_kinds : Kind → Kind → Bool
are_scan_kinds (kind.Flop flop) (kind.Flop scan) = not flop.scan && scan.scan && same_force flop.force scan.force
are_scan_kinds _ _ = false

-- whether two lists of names are the same
abbrev pub same_names : List (List ℕ) → List (List ℕ) → Bool
same_names [] [] = true
same_names [] (other ∷ others) = false
same_names (name ∷ names) [] = false
same_names (name ∷ names) (other ∷ others) = bytes_eq name other && same_names names others

-- whether a cell can replace another in a scan chain: it is of its scan kind, and but for the scan pins its pins have the other's names
abbrev pub is_scan_cell : Draft → Draft → Bool
is_scan_cell other draft = are_scan_kinds draft.kind other.kind && same_names (map pin_name (shared_pins other.pins)) (map pin_name draft.pins)

-- the number of the cell with this name, where it can replace the draft's
abbrev pub number_where : List Draft → Draft → CellId → Option CellId
number_where drafts draft id = option_and_then (λ other. if is_scan_cell other draft then Some id else None) (slice_get drafts id.0)

abbrev pub scan_cell : List Draft → Draft → List ℕ → Option CellId
scan_cell drafts draft name = option_and_then (number_where drafts draft) (find_cell (map (cell_with None) drafts) name)

-- the cell of a draft among all drafts: where it names a scan cell, there is one that fits
abbrev pub cell_named : List Draft → Draft → Option (List ℕ) → Result Cell LibraryError
cell_named drafts draft None = Ok (cell_with None draft)
cell_named drafts draft (Some name) = needed (error.L5 draft.name) (scan_cell drafts draft name) (λ id. Ok (cell_with (Some id) draft))

abbrev pub cell_of : List Draft → Draft → Result Cell LibraryError
cell_of drafts draft = cell_named drafts draft draft.scan

-- the cells of some drafts among all drafts
abbrev pub cells_among : List Draft → List Draft → Result (List Cell) LibraryError
cells_among drafts [] = Ok []
cells_among drafts (draft ∷ rest) = cons_ok (cell_of drafts draft) (cells_among drafts rest)

-- whether a cell is a lock-up
abbrev pub is_lockup : Kind → Bool
is_lockup kind.Lockup = true
is_lockup _ = false

-- cells among which a dff and a lockup stand
abbrev pub with_needed_kinds : List Cell → Result (List Cell) LibraryError
with_needed_kinds cells =
    checked (list_any (λ cell. is_dff cell.kind) cells) (error.L4 (codes "dff"))
    (checked (list_any (λ cell. is_lockup cell.kind) cells) (error.L4 (codes "lockup")) (Ok cells))

-- the library of a table. First the table of the cells is looked at, then each cell, then the scan cells, then the kinds that are needed.
unfoldable pub library_of : Members → Result (List Cell) LibraryError
library_of table =
    needed (error.L7 (codes "cells")) (cells_table table) (λ cells.
    after (drafts_of cells) (λ drafts.
    after (cells_among drafts drafts) (λ found.
    with_needed_kinds found)))

-- the bytes are a table whose library is this
abbrev pub IsLibraryOf : List ℕ → List Cell → Type 0
IsLibraryOf bytes cells = (table : Members) × IsTable bytes table × (library_of table ≡ Ok cells)

-- the bytes are a table of which this is the first check that fails
abbrev pub FirstFails : List ℕ → LibraryError → Type 0
FirstFails bytes refusal = (table : Members) × IsTable bytes table × (library_of table ≡ Err refusal)

-- the refusal that the bytes get, but for want of memory: that they are no table, or the first check that fails
abbrev pub IsRefusedAs : List ℕ → LibraryError → Type 0
IsRefusedAs bytes error.NotToml = IsNoTable bytes
IsRefusedAs bytes (error.L1 name) = FirstFails bytes (error.L1 name)
IsRefusedAs bytes (error.L2 name) = FirstFails bytes (error.L2 name)
IsRefusedAs bytes (error.L3 name) = FirstFails bytes (error.L3 name)
IsRefusedAs bytes (error.L4 name) = FirstFails bytes (error.L4 name)
IsRefusedAs bytes (error.L5 name) = FirstFails bytes (error.L5 name)
IsRefusedAs bytes (error.L7 name) = FirstFails bytes (error.L7 name)
IsRefusedAs bytes (error.Memory a) = Unit {0}
