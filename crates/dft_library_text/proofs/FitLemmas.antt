-- The library that a table stands for is well formed.
use Rattle.std.proofs.Common.{ℕ, ◌≡◌, ◌≤◌, nat_le, Bool, true, false, not, cond, codes, List, [], ◌∷◌, map, length, Option, Some, None, option_and_then, Result, Ok, Err, Less, String, Global, string_bytes, refl, subst, arith}
use Rattle.std.specs.Map.{keys_of}
use Rattle.std.specs.String.{string_cmp}
use Rattle.std.specs.List.{AllByRecursion, list_all}
use Rattle.std.specs.List.Sorted.{IsStrictlySortedBy}
use Rattle.std.proofs.lemmas.Bool.Decides.{nat_tests}
use Rattle.std.proofs.lemmas.Bool.{and_from}
use Rattle.dft_base.specs.Words.{is_reserved}
use Rattle.toml.specs.Data.{Data, Members, no_members, member, as_table}
use Rattle.toml.specs.View.{view, members_view}
use Rattle.toml.specs.declared.value.Value.{Value}
use Rattle.dft_base.specs.Names.{is_name, name_of}
use Rattle.dft_toml.specs.Values.{text_at, table_at, has_only}
use Rattle.dft_cells.specs.declared.kind.Kind.{Kind}
use Rattle.dft_cells.specs.declared.cell.Pin.{Pin}
use Rattle.dft_library_text.specs.declared.draft.Draft.{Draft}
use Rattle.dft_library_text.specs.declared.refusal.Flaw.{Flaw}
use Rattle.dft_library_text.specs.declared.refusal.Flaw.TheVariants as flaw
use Rattle.dft_cells.specs.declared.library.TheConstants.{MAX_CELLS}
use Rattle.dft_library_text.specs.Keys.{kind_named, keys_of as key_words, pin_keys}
use Rattle.dft_library_text.specs.Drafts.{draft_of, draft_of_kind, pins_of, scan_name, rows_of, fitted}
use Rattle.dft_library_text.specs.Reading.{key_count, few, cells_table, judged, drafts_of, cell_with}
use Rattle.dft_cells.specs.WellFormed.{IsCell, ascend, comes_before, pin_name}
use Rattle.dft_library_text.proofs.PinNames.{pins_pass, tested}
use Rattle.dft_library_text.proofs.Outcomes.{needed_ok, checked_ok, after_ok, cons_parts}
use Rattle.dft_library_text.proofs.RoleLemmas.{fitted_parts}
use Rattle.dft_library_text.proofs.Halving.{names_of}

abbrev made : List ℕ → Kind → List Pin → Option (List ℕ) → Result Draft Flaw
made name kind pins scan = Ok (record { name = name; kind = kind; pins = pins; scan = scan })

-- what a draft of a cell with this name keeps
pub record IsDraft (name : List ℕ) (draft : Draft) : Type 0 where
  pub named : draft.name ≡ name
  pub fits : IsCell (cell_with None draft)

pub kind_drafts : (name : List ℕ) (kind : Kind) (table : Members) (draft : Draft) → is_name name ≡ true → draft_of_kind name kind table ≡ Ok draft → IsDraft name draft
unfolding draft_of_kind
kind_drafts name kind table draft named h =
    let (_, keys) = checked_ok (has_only (key_words kind) table) _ _ draft h in
    let (pins, pins_are, rest) = needed_ok _ (pins_of (pin_keys kind) table) _ draft keys in
    let (scan, _, with_scan) = after_ok (scan_name table) _ draft rest in
    let (rows, _, with_rows) = after_ok (rows_of kind table) _ draft with_scan in
    let (fitting, fitted_is, last) = after_ok (fitted kind pins rows) _ draft with_rows in
    let (_, done) = checked_ok (not (is_reserved name)) flaw.Reserved (made name fitting pins scan) draft last in
    let is : record { name = name; kind = fitting; pins = pins; scan = scan } ≡ draft = cc in
    let (roles, differ) = fitted_parts kind table pins rows fitting pins_are fitted_is in
    rw (← is) record { named = refl; fits = record { roles = roles; differ = differ; named = and_from (is_name name) (list_all is_name (map pin_name pins)) named (pins_pass (pin_keys kind) table pins pins_are) } }

pub drafts_fit : (name : List ℕ) (value : Data) (draft : Draft) → draft_of name value ≡ Ok draft → IsDraft name draft
unfolding draft_of
drafts_fit name value draft h =
    let (given, given_is, named) = needed_ok _ (name_of name) _ draft h in
    let (table, _, tabled) = needed_ok _ (as_table value) _ draft named in
    let (word, _, worded) = needed_ok _ (text_at (codes "kind") table) _ draft tabled in
    let (kind, _, kinded) = needed_ok _ (kind_named word) _ draft worded in
    let (passes, same) = tested (is_name name) name given given_is in
    rw same (kind_drafts given kind table draft (subst (λ q. is_name q ≡ true) same passes) kinded)

judged_ok : (name : List ℕ) (found : Result Draft Flaw) (draft : Draft) → judged name found ≡ Ok draft → found ≡ Ok draft
judged_ok name (Ok d) draft h = cc
judged_ok name (Err e) draft h = absurd (cc)

-- the names of the keys of a map
abbrev key_bytes : List (String Global × Value) → List (List ℕ)
key_bytes entries = map string_bytes (keys_of entries)

drafts_named : (entries : List (String Global × Value)) (drafts : List Draft) → drafts_of (members_view entries) ≡ Ok drafts → names_of drafts ≡ key_bytes entries
drafts_named [] drafts h = let empty : [] ≡ drafts = cc in rw (← empty)
drafts_named (e ∷ entries) drafts h =
    let (draft, rest, first, others, all) = cons_parts (judged (string_bytes e.0) (draft_of (string_bytes e.0) (view e.1))) (drafts_of (members_view entries)) drafts h in
    let is = drafts_fit (string_bytes e.0) (view e.1) draft (judged_ok (string_bytes e.0) (draft_of (string_bytes e.0) (view e.1)) draft first) in
    rw (all, is.named, drafts_named entries rest others)

first_before : (key : String Global) (entries : List (String Global × Value)) → AllByRecursion (λ y. string_cmp key y ≡ Less) (keys_of entries) → comes_before (string_bytes key) (key_bytes entries) ≡ true
first_before key [] h = refl
first_before key (e ∷ entries) h = rw h.0

keys_ascend : (entries : List (String Global × Value)) → IsStrictlySortedBy string_cmp (keys_of entries) → ascend (key_bytes entries) ≡ true
unfolding IsStrictlySortedBy
keys_ascend [] h = refl
keys_ascend (e ∷ entries) h = rw (first_before e.0 entries h.0, keys_ascend entries h.1)

-- the drafts of a map stand in byte order of their names
pub drafts_ascend : (entries : List (String Global × Value)) (drafts : List Draft) → IsStrictlySortedBy string_cmp (keys_of entries) → drafts_of (members_view entries) ≡ Ok drafts
    → ascend (names_of drafts) ≡ true
drafts_ascend entries drafts sorted h = rw (drafts_named entries drafts h) (keys_ascend entries sorted)

-- there is a draft for each key
drafts_counted : (table : Members) (drafts : List Draft) → drafts_of table ≡ Ok drafts → length drafts ≡ key_count table
drafts_counted no_members drafts h = let empty : [] ≡ drafts = cc in rw (← empty)
drafts_counted (member key value rest) drafts h =
    let (draft, more, first, others, all) = cons_parts (judged key (draft_of key value)) (drafts_of rest) drafts h in
    let count = drafts_counted rest more others in
    rw all (omega (arith, count))

few_counted : (test : Bool) (table found : Members) → nat_le (key_count table) MAX_CELLS ≡ test → cond test (Some table) None ≡ Some found → key_count found ≤ MAX_CELLS
few_counted true table found t e = let same : table ≡ found = cc in rw (← same) (grind (arith, nat_tests))
few_counted false table found t e = absurd (cc)

few_found : (tables : Option Members) (found : Members) → option_and_then few tables ≡ Some found → key_count found ≤ MAX_CELLS
few_found None found e = absurd (cc)
few_found (Some table) found e = few_counted (nat_le (key_count table) MAX_CELLS) table found refl e

table_counted : (only : Bool) (tables : Option Members) (found : Members) → cond only (option_and_then few tables) None ≡ Some found → key_count found ≤ MAX_CELLS
table_counted true tables found e = few_found tables found e
table_counted false tables found e = absurd (cc)

-- a library has no more drafts than it may have cells
pub drafts_few : (table found : Members) (drafts : List Draft) → cells_table table ≡ Some found → drafts_of found ≡ Ok drafts → length drafts ≤ MAX_CELLS
drafts_few table found drafts e h =
    let count = drafts_counted found drafts h in
    let few_keys = table_counted (has_only (codes "cells" ∷ []) table) (table_at (codes "cells") table) found e in
    rw count few_keys

-- each draft is one of a cell
pub all_drafts_fit : (table : Members) (drafts : List Draft) → drafts_of table ≡ Ok drafts → AllByRecursion (λ draft. IsCell (cell_with None draft)) drafts
all_drafts_fit no_members drafts h = let empty : [] ≡ drafts = cc in rw (← empty) tt
all_drafts_fit (member key value rest) drafts h =
    let (draft, more, first, others, all) = cons_parts (judged key (draft_of key value)) (drafts_of rest) drafts h in
    let is = drafts_fit key value draft (judged_ok key (draft_of key value) draft first) in
    rw all (is.fits, all_drafts_fit rest more others)
