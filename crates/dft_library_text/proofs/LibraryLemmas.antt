-- The cells of drafts that fit make a library that is well formed.
use Rattle.std.proofs.Common.{ℕ, zero, suc, ◌≡◌, ◌≤◌, ◌||◌, Bool, true, false, cond, codes, List, [], ◌∷◌, ◌++◌, map, length, slice_get, Option, Some, None, option_and_then, Ok, Err, String, Global, subst, refl, ap, ◌∙◌, append-nil, arith}
use Rattle.std.specs.List.{AllByRecursion, list_any}
use Rattle.std.proofs.lemmas.Bool.{false≢true}
use Rattle.toml.specs.Data.{Members}
use Rattle.toml.specs.View.{members_view}
use Rattle.toml.specs.declared.value.Value.{Value}
use Rattle.dft_toml.specs.Text.{IsTable}
use Rattle.dft_cells.specs.declared.kind.Kind.{Kind}
use Rattle.dft_cells.specs.declared.kind.Kind.TheVariants as kind
use Rattle.dft_cells.specs.declared.kind.TheConstants.{DFF}
use Rattle.dft_cells.specs.declared.cell.Cell.{Cell}
use Rattle.dft_cells.specs.declared.cell.CellId.{CellId}
use Rattle.dft_library_text.specs.declared.draft.Draft.{Draft}
use Rattle.dft_library_text.specs.declared.refusal.LibraryError.{LibraryError}
use Rattle.dft_library_text.specs.declared.refusal.LibraryError.TheVariants as error
use Rattle.dft_cells.specs.declared.library.TheConstants.{MAX_CELLS}
use Rattle.dft_cells.specs.Cells.{find_cell}
use Rattle.dft_library_text.specs.Refusals.{after, checked, IsRefusal, IsOfTable}
use Rattle.dft_cells.specs.WellFormed.{IsCell, HasScanCell, HasKind, IsWellFormed, ascend, cell_name}
use Rattle.dft_library_text.specs.Reading.{cell_with, cell_named, cell_of, cells_among, number_where, scan_cell, is_scan_cell, is_dff, is_lockup, with_needed_kinds, drafts_of, library_of, IsRefusedAs}
use Rattle.dft_cells.proofs.KindLemmas.{dff_only}
use Rattle.dft_library_text.proofs.Outcomes.{needed_ok, checked_ok, cons_parts}
use Rattle.dft_library_text.proofs.Halving.{names_of}
use Rattle.dft_cells.proofs.StandardFits.{at_each}
use Rattle.dft_library_text.proofs.ScanLemmas.{scan_cell_shares}

-- what a table is refused for, the bytes are refused for
pub refused_as : (bytes : List ℕ) (table : Members) (e : LibraryError) → IsTable bytes table → IsOfTable e → (IsRefusal e → library_of table ≡ Err e) → IsRefusedAs bytes e
refused_as bytes table error.NotToml is of h = absurd of
refused_as bytes table (error.L1 name) is of h = (table, is, h tt)
refused_as bytes table (error.L2 name) is of h = (table, is, h tt)
refused_as bytes table (error.L3 name) is of h = (table, is, h tt)
refused_as bytes table (error.L4 name) is of h = (table, is, h tt)
refused_as bytes table (error.L5 name) is of h = (table, is, h tt)
refused_as bytes table (error.L7 name) is of h = (table, is, h tt)
refused_as bytes table (error.Memory a) is of h = tt

-- where no entry is left, the drafts are those of all
pub all_drafts : (entries rest : List (String Global × Value)) (drafts : List Draft) → drafts_of (members_view entries) ≡ after (drafts_of (members_view rest)) (λ more. Ok (drafts ++ more))
    → rest ≡ [] → drafts_of (members_view entries) ≡ Ok drafts
all_drafts entries rest drafts h e = (rw e at h) ∙ ap Ok (append-nil drafts)

-- a cell has the name, the kind and the pins of its draft
record IsCellOf (draft : Draft) (cell : Cell) : Type 0 where
  name : cell.name ≡ draft.name
  kind : cell.kind ≡ draft.kind
  pins : cell.pins ≡ draft.pins

cell_is : (scan : Option CellId) (draft : Draft) (cell : Cell) → cell_with scan draft ≡ cell → IsCellOf draft cell
cell_is scan draft cell e = rw (← e) record { name = refl; kind = refl; pins = refl }

cell_of_draft : (all : List Draft) (draft : Draft) (scan : Option (List ℕ)) (cell : Cell) → cell_named all draft scan ≡ Ok cell → IsCellOf draft cell
cell_of_draft all draft None cell h = cell_is None draft cell (cc)
cell_of_draft all draft (Some name) cell h =
    let (id, _, done) = needed_ok (error.L5 draft.name) (scan_cell all draft name) (λ id. Ok (cell_with (Some id) draft)) cell h in
    cell_is (Some id) draft cell (cc)

names_kept : (all part : List Draft) (cells : List Cell) → cells_among all part ≡ Ok cells → map cell_name cells ≡ names_of part
names_kept all [] cells h = let empty : [] ≡ cells = cc in rw (← empty)
names_kept all (draft ∷ part) cells h =
    let (cell, rest, first, others, same) = cons_parts (cell_of all draft) (cells_among all part) cells h in
    let is = cell_of_draft all draft draft.scan cell first in
    rw (same, is.name, names_kept all part rest others)

counted : (all part : List Draft) (cells : List Cell) → cells_among all part ≡ Ok cells → length cells ≡ length part
counted all [] cells h = let empty : [] ≡ cells = cc in rw (← empty)
counted all (draft ∷ part) cells h =
    let (cell, rest, first, others, same) = cons_parts (cell_of all draft) (cells_among all part) cells h in
    let count = counted all part rest others in
    rw same (omega (arith, count))

cell_fits : (draft : Draft) (cell : Cell) → IsCellOf draft cell → IsCell (cell_with None draft) → IsCell cell
cell_fits draft cell is fits = record { roles = rw (is.kind, is.pins) fits.roles; differ = rw is.pins fits.differ; named = rw (is.name, is.pins) fits.named }

cells_fit : (all part : List Draft) (cells : List Cell) → cells_among all part ≡ Ok cells → AllByRecursion (λ draft. IsCell (cell_with None draft)) part → AllByRecursion IsCell cells
cells_fit all [] cells h fit = let empty : [] ≡ cells = cc in rw (← empty) tt
cells_fit all (draft ∷ part) cells h fit =
    let (cell, rest, first, others, same) = cons_parts (cell_of all draft) (cells_among all part) cells h in
    rw same (cell_fits draft cell (cell_of_draft all draft draft.scan cell first) fit.0, cells_fit all part rest others fit.1)

-- the cell of a draft stands at the draft's place
cell_at : (all part : List Draft) (cells : List Cell) → cells_among all part ≡ Ok cells → (place : ℕ) (draft : Draft) → slice_get part place ≡ Some draft
    → (cell : Cell) × (slice_get cells place ≡ Some cell) × (cell_of all draft ≡ Ok cell)
cell_at all [] cells h place draft at = absurd (cc)
cell_at all (first ∷ part) cells h zero draft at =
    let (cell, rest, made, others, same) = cons_parts (cell_of all first) (cells_among all part) cells h in
    let is : first ≡ draft = cc in
    rw (same, ← is) (cell, refl, made)
cell_at all (first ∷ part) cells h (suc place) draft at =
    let (cell, rest, made, others, same) = cons_parts (cell_of all first) (cells_among all part) cells h in
    rw same (cell_at all part rest others place draft at)

-- what a scan cell that was found is
kept : (test : Bool) (id other : CellId) → cond test (Some id) None ≡ Some other → (test ≡ true) × (id ≡ other)
kept true id other e = (refl, cc)
kept false id other e = absurd (cc)

found_at_number : (draft : Draft) (there : Option Draft) (id other : CellId) → option_and_then (λ d. cond (is_scan_cell d draft) (Some id) None) there ≡ Some other
    → (d : Draft) × (there ≡ Some d) × (is_scan_cell d draft ≡ true) × (id ≡ other)
found_at_number draft None id other e = absurd (cc)
found_at_number draft (Some d) id other e = let (test, same) = kept (is_scan_cell d draft) id other e in (d, refl, test, same)

scan_found : (all : List Draft) (draft : Draft) (found : Option CellId) (id : CellId) → option_and_then (number_where all draft) found ≡ Some id
    → (d : Draft) × (slice_get all id.0 ≡ Some d) × (is_scan_cell d draft ≡ true)
scan_found all draft None id e = absurd (cc)
scan_found all draft (Some first) id e =
    let (d, at, test, same) = found_at_number draft (slice_get all first.0) first id e in
    (d, subst (λ (number : CellId). slice_get all number.0 ≡ Some d) same at, test)

-- a cell's scan cell, where it names one, is one in the library
scan_in : (all : List Draft) (cells : List Cell) → cells_among all all ≡ Ok cells → ((place : ℕ) (draft : Draft) → slice_get all place ≡ Some draft → IsCell (cell_with None draft))
    → (draft : Draft) → IsCell (cell_with None draft) → (cell : Cell) (scan : Option (List ℕ)) → cell_named all draft scan ≡ Ok cell → HasScanCell cells cell
scan_in all cells h fit draft fits cell None e = let is : cell_with None draft ≡ cell = cc in rw (← is) tt
scan_in all cells h fit draft fits cell (Some name) e =
    let (id, found, done) = needed_ok (error.L5 draft.name) (scan_cell all draft name) (λ number. Ok (cell_with (Some number) draft)) cell e in
    let (d, at, test) = scan_found all draft (find_cell (map (cell_with None) all) name) id found in
    let (other, stands, made) = cell_at all all cells h id.0 d at in
    let other_is = cell_of_draft all d d.scan other made in
    let (kinds, pins) = scan_cell_shares d draft test fits.roles (fit id.0 d at).roles in
    let is : cell_with (Some id) draft ≡ cell = cc in
    rw (← is) record { other = other; at = stands; fits = rw other_is.kind kinds; shared = rw other_is.pins pins }

scans_in : (all : List Draft) (cells : List Cell) → cells_among all all ≡ Ok cells → ((place : ℕ) (draft : Draft) → slice_get all place ≡ Some draft → IsCell (cell_with None draft))
    → (part : List Draft) (some : List Cell) → cells_among all part ≡ Ok some → AllByRecursion (λ draft. IsCell (cell_with None draft)) part → AllByRecursion (HasScanCell cells) some
scans_in all cells h fit [] some e fits = let empty : [] ≡ some = cc in rw (← empty) tt
scans_in all cells h fit (draft ∷ part) some e fits =
    let (cell, rest, first, others, same) = cons_parts (cell_of all draft) (cells_among all part) some e in
    rw same (scan_in all cells h fit draft fits.0 cell draft.scan first, scans_in all cells h fit part rest others fits.1)

-- a kind that some cell has
lockup_only : (this : Kind) → is_lockup this ≡ true → this ≡ kind.Lockup
lockup_only kind.Lockup e = refl
lockup_only _ e = absurd (false≢true e)

first_or_later : (here : Bool) (kind : Kind) (cell : Cell) (cells : List Cell) (later : Bool) → (here || later) ≡ true → (here ≡ true → cell.kind ≡ kind) → (later ≡ true → HasKind cells kind)
    → HasKind (cell ∷ cells) kind
first_or_later true kind cell cells later t here more = (0, cell, refl, here refl)
first_or_later false kind cell cells later t here more = let (place, other, at, same) = more t in (suc place, other, at, same)

some_kind : (test : Kind → Bool) (kind : Kind) → ((k : Kind) → test k ≡ true → k ≡ kind) → (cells : List Cell) → list_any (λ cell. test cell.kind) cells ≡ true → HasKind cells kind
some_kind test kind only [] e = absurd (false≢true e)
some_kind test kind only (cell ∷ cells) e =
    first_or_later (test cell.kind) kind cell cells (list_any (λ c. test c.kind) cells) e (only cell.kind) (some_kind test kind only cells)

-- the cells of drafts that fit, among which the needed kinds stand, are a library
pub library_fits : (drafts : List Draft) (cells : List Cell) → AllByRecursion (λ draft. IsCell (cell_with None draft)) drafts → ascend (names_of drafts) ≡ true
    → length drafts ≤ MAX_CELLS → cells_among drafts drafts ≡ Ok cells → with_needed_kinds cells ≡ Ok cells → IsWellFormed cells
library_fits drafts cells fit up few h kinds =
    let has_dff = list_any (λ (cell : Cell). is_dff cell.kind) cells in
    let has_lockup = list_any (λ (cell : Cell). is_lockup cell.kind) cells in
    let (dff, rest) = checked_ok has_dff (error.L4 (codes "dff")) (checked has_lockup (error.L4 (codes "lockup")) (Ok cells)) cells kinds in
    let (lockup, _) = checked_ok has_lockup (error.L4 (codes "lockup")) (Ok cells) cells rest in
    let count = counted drafts drafts cells h in
    record {
      count = rw count few;
      names = rw (names_kept drafts drafts cells h) up;
      each = at_each IsCell cells (cells_fit drafts drafts cells h fit);
      scans = at_each (HasScanCell cells) cells (scans_in drafts cells h (at_each (λ (draft : Draft). IsCell (cell_with None draft)) drafts fit) drafts cells h fit);
      dff = some_kind is_dff DFF dff_only cells dff;
      lockup = some_kind is_lockup kind.Lockup lockup_only cells lockup;
    }
