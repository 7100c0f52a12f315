-- What holds of a merger before and after each cube.
use Rattle.std.proofs.Common.{ℕ, Bool, List, [], ◌∷◌, ◌++◌, ◌≡◌, ◌+◌, ◌-◌, ◌*◌, ◌<◌, ◌≤◌, length, get_or, map, min, take, refl, sym, ap, subst, arith, ◌∙◌, ◌⊎◌, inl, inr, Option, Some, None, Result, Ok, Err, IfOk, OnErr, MatchOption, IfSome, slice_get, length-set, Vec}
use Rattle.std.proofs.lemmas.Bool.{cases_lt}
use Rattle.std.proofs.lemmas.Option.{same_Some, slice_get_cases, slice_get_read, slice_get_within, get_or_from_slice_get, option_and_then_some}
use Rattle.std.proofs.lemmas.List.{get_or-map, length-map, length_push}
use Rattle.std.proofs.lemmas.List.FromFn.{length-map-range_with_len}
use Rattle.std.specs.declared.alloc.AllocError.{AllocError}
use Rattle.std.specs.declared.alloc.Global.{Global}
use Rattle.dft_lanes.specs.Rows.{bits_of, IsPacked}
use Rattle.dft_base.specs.Solutions.{Equation, IsSolvable, IsChosen, CanTake, Contradicts, Solves, StatesCertificate, bit_at}
use Rattle.dft_netlist.specs.declared.ids.InstanceId.{InstanceId}
use Rattle.dft_config.specs.declared.config.RingConfig.{RingConfig}
use Rattle.dft_config.specs.Loads.{load_equation}
use Rattle.dft_stitch.specs.Plans.{cell_at}
use Rattle.dft_equations.specs.LoadRows.{LoadRows, AreLoadEquations, rows_of}
use Rattle.dft_gf2.specs.Elimination.{Elimination}
use Rattle.dft_cubes.specs.declared.cube.Cube.{Cube}
use Rattle.dft_cubes.specs.declared.cube.Merged.{Merged}
use Rattle.dft_merge.specs.declared.slot.Slot.{Slot}
use Rattle.dft_merge.specs.Rows.{CellRows, StandApart, cell_row}
use Rattle.dft_merge.specs.Placement.{Joins, Loads, NoneFits, begun, equations_of, first_open, first_unscanned, joined}
use Rattle.dft_merge.specs.Slots.{AreLoadable, AreRows, AreSlots, IsJoined, IsNextCount, IsSlot, NoneFrom}
use Rattle.dft_merge.specs.Systems.{IsRefused, IsSystem}
use Rattle.dft_merge.proofs.EquationLemmas.{solves_loads}
use Rattle.dft_merge.proofs.PlaceLemmas.{row_wide}
use Rattle.dft_merge.proofs.SystemLemmas.{refused_stated, system_none}
use Rattle.dft_merge.proofs.SlotLemmas.{loadable_joined, loadable_push, loadable_set, wide_equations}

-- ---- the load equations of chains

at_place : (chains : List (List InstanceId)) (c k : ℕ) (cell : InstanceId) → cell_at chains c k ≡ Some cell → (cells : List InstanceId) × ((slice_get chains c ≡ Some cells) × (slice_get cells k ≡ Some cell))
at_place chains c k cell is = option_and_then_some (λ (cells : List InstanceId). slice_get cells k) (slice_get chains c) cell is (λ cells found there. (cells, (found, there)))

count_at : (ring : RingConfig) (chains : List (List InstanceId)) (late : ℕ → Bool) (cycles : ℕ) (rows : LoadRows) (c k : ℕ) (cell : InstanceId) → AreLoadEquations ring (map length chains) late cycles rows → cell_at chains c k ≡ Some cell →
    (c < length (map length chains)) × (k < length (rows_of rows c)) × (get_or (map length chains) c 0 ≡ length (rows_of rows c))
count_at ring chains late cycles rows c k cell are is =
    let at = at_place chains c k cell is in
    let within : c < length chains = slice_get_within chains c at.0 at.1.0 in
    let inside : k < length at.0 = slice_get_within at.0 k cell at.1.1 in
    let size : length (map length chains) ≡ length chains = length-map chains length in
    let cells : get_or (map length chains) c 0 ≡ length at.0 = get_or-map length chains c at.0 0 within ∙ ap length (get_or_from_slice_get chains c at.0 at.0 at.1.0) in
    let less : c < length (map length chains) = omega arith in
    let count : length (rows_of rows c) ≡ get_or (map length chains) c 0 = (are.each c less).count in
    (less, omega arith, sym count)

pub rows_are : (ring : RingConfig) (chains : List (List InstanceId)) (late : ℕ → Bool) (cycles : ℕ) (rows : LoadRows) → AreLoadEquations ring (map length chains) late cycles rows → StandApart chains → AreRows chains rows
rows_are ring chains late cycles rows are apart = record {
  cells = λ c k cell is. (let at = count_at ring chains late cycles rows c k cell are is in ((let less = at.0 in let size = are.chains in omega arith), at.1));
  wide = λ c k cell is.
      (let at = count_at ring chains late cycles rows c k cell are is in
      let inside : k < get_or (map length chains) c 0 = (let less = at.1 in let same = at.2 in omega arith) in
      ap length ((are.each c at.0).each k inside) ∙ length-map-range_with_len (load_equation ring cycles (late c) c k) 0 (cycles * ring.channels) ∙ sym are.columns);
  apart = apart;
}

-- ---- slots and patterns

pub record IsState (n : ℕ) (row : CellRows) (window : ℕ) (patterns : List Merged) (slots : List Slot) : Type 0 where
  pub count : length slots ≡ min window (length patterns)
  pub open_ones : AreSlots n row (length patterns - length slots) patterns slots
  pub loadable : AreLoadable n row patterns

nothing : (n : ℕ) (row : CellRows) (window : ℕ) → IsState n row window [] []
nothing n row window = record {
  count = omega arith;
  open_ones = record { count = refl; each = λ j slot pattern is that. absurd (let f : ⊥ = cc in f) };
  loadable = λ p pattern is. absurd (let f : ⊥ = cc in f);
}

pub state_none : (n : ℕ) (row : CellRows) (window : ℕ) (patterns : List Merged) (slots : List Slot) → patterns ≡ [] → slots ≡ [] → IsState n row window patterns slots
state_none n row window patterns slots a b = subst (λ (ps : List Merged). IsState n row window ps slots) (sym a) (subst (IsState n row window []) (sym b) (nothing n row window))

pub state_same : (n : ℕ) (row : CellRows) (window : ℕ) (patterns more : List Merged) (slots others : List Slot) → IsState n row window patterns slots → more ≡ patterns → others ≡ slots → IsState n row window more others
state_same n row window patterns more slots others is a b = subst (λ (ps : List Merged). IsState n row window ps others) (sym a) (subst (IsState n row window patterns) (sym b) is)

-- what became of the patterns in a try
abbrev pub Tried : ℕ → CellRows → (first : ℕ) → (old : List Merged) → Cube → (new : List Merged) → Option ℕ → Type 0
Tried n row first old cube new found = MatchOption found (NoneFrom n row first old cube (length old) × (new ≡ old)) (IsJoined n row first old cube new)

abbrev Became : ℕ → CellRows → (first : ℕ) → (old : List Merged) → Cube → (new : List Merged) → Type 0
Became n row first old cube new = (new ≡ old) ⊎ ((p : ℕ) × IsJoined n row first old cube new p)

became : (n : ℕ) (row : CellRows) (first : ℕ) (old : List Merged) (cube : Cube) (new : List Merged) (result : Result (Option ℕ) AllocError) → IfOk result (Tried n row first old cube new) → OnErr result (new ≡ old) → Became n row first old cube new
became n row first old cube new (Ok None) ok err = inl ok.1
became n row first old cube new (Ok (Some p)) ok err = inr (p, ok)
became n row first old cube new (Err error) ok err = inl err

loadable_became : (n : ℕ) (row : CellRows) (first : ℕ) (old : List Merged) (cube : Cube) (new : List Merged) → AreLoadable n row old → first_unscanned row cube.cells ≡ None → Became n row first old cube new → AreLoadable n row new
loadable_became n row first old cube new all scanned (inl same) = subst (AreLoadable n row) (sym same) all
loadable_became n row first old cube new all scanned (inr joins) =
    let is = joins.1 in
    subst (AreLoadable n row) (sym is.patterns)
    (loadable_set n row old joins.0 is.pattern (joined is.pattern cube) all (loadable_joined n row is.pattern cube (all joins.0 is.pattern is.is) scanned is.fits) is.is)

length_became : (n : ℕ) (row : CellRows) (first : ℕ) (old : List Merged) (cube : Cube) (new : List Merged) → Became n row first old cube new → length new ≡ length old
length_became n row first old cube new (inl same) = ap length same
length_became n row first old cube new (inr joins) = ap length joins.1.patterns ∙ length-set old joins.0 (joined joins.1.pattern cube)

pub state_tried : (n : ℕ) (row : CellRows) (window first : ℕ) (old new : List Merged) (cube : Cube) (slots others : List Slot) (result : Result (Option ℕ) AllocError) → (is : IsState n row window old slots) → (at : first ≡ length old - length slots) → (scanned : first_unscanned row cube.cells ≡ None) →
    (are : AreSlots n row first new others) → (ok : IfOk result (Tried n row first old cube new)) → (err : OnErr result (new ≡ old)) → IsState n row window new others
state_tried n row window first old new cube slots others result is at scanned are ok err =
    let now : Became n row first old cube new = became n row first old cube new result ok err in
    let size : length new ≡ length old = length_became n row first old cube new now in
    let count = is.count in
    let before = is.open_ones.count in
    let after = are.count in
    let same : length others ≡ length slots = omega arith in
    record {
      count = omega arith;
      open_ones = subst (λ (k : ℕ). AreSlots n row k new others) (let e : first ≡ length new - length others = omega arith in e) are;
      loadable = loadable_became n row first old cube new is.loadable scanned now;
    }

-- ---- what is told of a try

open_first : (window first : ℕ) (patterns : List Merged) (slots : List Slot) → length slots ≡ min window (length patterns) → first ≡ length patterns - length slots → first ≡ first_open window (length patterns)
open_first window first patterns slots count at = omega arith

pub told_none : (n : ℕ) (row : CellRows) (window first : ℕ) (old : List Merged) (cube : Cube) (slots : List Slot) (p : ℕ) → length slots ≡ min window (length old) → first ≡ length old - length slots → NoneFrom n row first old cube p → NoneFits n row window old cube p
told_none n row window first old cube slots p count at none = subst (λ (k : ℕ). NoneFrom n row k old cube p) (open_first window first old slots count at) none

pub told_joined : (n : ℕ) (row : CellRows) (window first : ℕ) (old : List Merged) (cube : Cube) (new : List Merged) (slots : List Slot) (p : ℕ) → length slots ≡ min window (length old) → first ≡ length old - length slots → IsJoined n row first old cube new p → Joins n row window old cube p new
told_joined n row window first old cube new slots p count at is = record {
  pattern = is.pattern;
  is = is.is;
  open_is = (let e = open_first window first old slots count at in let less = is.open_is in omega arith);
  fits = is.fits;
  oldest = told_none n row window first old cube slots p count at is.before;
  patterns = is.patterns;
}

-- what is told of a try, of the open patterns
abbrev pub Said : ℕ → CellRows → (window : ℕ) → (old : List Merged) → Cube → (new : List Merged) → Option ℕ → Type 0
Said n row window old cube new found = MatchOption found (NoneFits n row window old cube (length old) × (new ≡ old)) (λ p. Joins n row window old cube p new)

said_of : (n : ℕ) (row : CellRows) (window first : ℕ) (old : List Merged) (cube : Cube) (new : List Merged) (slots : List Slot) (found : Option ℕ) → length slots ≡ min window (length old) → first ≡ length old - length slots →
    Tried n row first old cube new found → Said n row window old cube new found
said_of n row window first old cube new slots None count at tried = (told_none n row window first old cube slots (length old) count at tried.0, tried.1)
said_of n row window first old cube new slots (Some p) count at tried = told_joined n row window first old cube new slots p count at tried

pub said_all : (n : ℕ) (row : CellRows) (window first : ℕ) (old : List Merged) (cube : Cube) (new : List Merged) (slots : List Slot) (result : Result (Option ℕ) AllocError) → length slots ≡ min window (length old) → first ≡ length old - length slots →
    IfOk result (Tried n row first old cube new) → IfOk result (Said n row window old cube new)
said_all n row window first old cube new slots (Ok found) count at tried = said_of n row window first old cube new slots found count at tried
said_all n row window first old cube new slots (Err error) count at tried = tt

-- ---- a pattern that begins

count_opened : (window slots old others new : ℕ) → slots ≡ min window old → new ≡ old + 1 → IsNextCount window slots others → (slots < window) ⊎ (window ≤ slots) → others ≡ min window new
count_opened window slots old others new count more next (inl less) = let size = next.0 less in omega arith
count_opened window slots old others new count more next (inr full) = let size = next.1 full in omega arith

pub state_opened : (n : ℕ) (row : CellRows) (window : ℕ) (old new : List Merged) (cube : Cube) (slots others : List Slot) → IsState n row window old slots → first_unscanned row cube.cells ≡ None → IsSolvable n (equations_of row cube.cells) →
    new ≡ old ++ begun cube ∷ [] → AreSlots n row (length new - length others) new others → IsNextCount window (length slots) (length others) → IsState n row window new others
state_opened n row window old new cube slots others is scanned solvable begins are next = record {
  count = count_opened window (length slots) (length old) (length others) (length new) is.count (ap length begins ∙ length_push old (begun cube)) next (cases_lt (length slots) window);
  open_ones = are;
  loadable = subst (AreLoadable n row) (sym begins) (loadable_push n row old (begun cube) is.loadable (record { scanned = scanned; solvable = solvable }));
}

-- the certificate of a cube alone
pub alone_stated : (n m : ℕ) (chains : List (List InstanceId)) (rows : LoadRows) (cells lent : List (InstanceId × Bool)) (before old new : Elimination) (start : ℕ) (ids : List ℕ) → (are : AreRows chains rows) → n ≡ rows.columns → (from : lent ≡ cells) → (scanned : first_unscanned (cell_row chains rows) cells ≡ None) →
    (back : old ≡ record { columns = before.columns; kept = take start before.kept; refused = None }) → (empty : start ≡ 0) → (refused : IsRefused n (equations_of (cell_row chains rows) lent) old new) → (same : m ≡ n) →
    (contradicts : IfSome new.refused (λ e. Contradicts m new.kept e ids)) → StatesCertificate n (equations_of (cell_row chains rows) cells) ids
alone_stated n m chains rows cells lent before old new start ids are columns from scanned back empty refused same contradicts =
    let row : CellRows = cell_row chains rows in
    let none : old.kept ≡ [] = ap (λ (s : Elimination). s.kept) back ∙ ap (λ (k : ℕ). take k before.kept) empty in
    refused_stated n (equations_of row cells) old new ids
    (wide_equations n row 0 cells (λ cell r found. row_wide chains rows cell r are found ∙ sym columns) scanned) none
    (subst (λ (l : List (InstanceId × Bool)). IsRefused n (equations_of row l) old new) from refused)
    (subst (λ (k : ℕ). IfSome new.refused (λ e. Contradicts k new.kept e ids)) same contradicts)

-- ---- channel bits

-- equations with the same solutions choose the same bits
can_along : (n : ℕ) (es fs : List Equation) (bits : List Bool) (c : ℕ) (bit : Bool) → ((x : ℕ → Bool) → Solves n x es → Solves n x fs) → CanTake n es bits c bit → CanTake n fs bits c bit
can_along n es fs bits c bit along can = (can.0, (along can.0 can.1.0, can.1.1, can.1.2))

pub chosen_along : (n : ℕ) (es fs : List Equation) (fill bits : List Bool) → ((x : ℕ → Bool) → Solves n x es → Solves n x fs) → ((x : ℕ → Bool) → Solves n x fs → Solves n x es) → IsChosen n es fill bits → IsChosen n fs fill bits
chosen_along n es fs fill bits there back is = record {
  size = is.size;
  met = λ c less can. is.met c less (can_along n fs es bits c (bit_at fill c) back can);
  turned = λ c less never. is.turned c less (λ can. never (can_along n es fs bits c (bit_at fill c) there can));
}

-- the system of a cube alone, which goes back to its start
pub empty_again : (n : ℕ) (before old : Elimination) (start : ℕ) → before.columns ≡ n → start ≡ 0 → old ≡ record { columns = before.columns; kept = take start before.kept; refused = None } → IsSystem n [] old
empty_again n before old start columns empty back =
    system_none n old (ap (λ (s : Elimination). s.columns) back ∙ columns) (ap (λ (s : Elimination). s.kept) back ∙ ap (λ (k : ℕ). take k before.kept) empty)

-- ---- the bits of a system

-- a pattern that is open, and its slot
pub slot_at : (n : ℕ) (row : CellRows) (first from p : ℕ) (patterns : List Merged) (slots : List Slot) (slot : Slot) → AreSlots n row first patterns slots → from ≡ first → from ≤ p → p < length patterns → slot ≡ get_or slots (p - from) slot →
    (pattern : Merged) × ((slice_get patterns p ≡ Some pattern) × IsSlot n row pattern slot)
slot_at n row first from p patterns slots slot are same open_is within is =
    let count = are.count in
    let some = slice_get_cases patterns p in
    elim some.1 [
      | inl found ↦ (found.0, (found.2, are.each (p - from) slot found.0 (slice_get_read slots (length slots) (p - from) slot refl (omega arith) is) (ap (slice_get patterns) (let e : first + (p - from) ≡ p = omega arith in e) ∙ found.2)))
      | inr past ↦ absurd (let over = past.0 in omega arith)
    ]

pub packed_all : (n m : ℕ) (result : Result (Vec ℕ Global) AllocError) → m ≡ n → IfOk result (λ words. IsPacked m words.items) → IfOk result (λ words. IsPacked n words.items)
packed_all n m result same is = subst (λ (k : ℕ). IfOk result (λ words. IsPacked k words.items)) same is

pub chosen_all : (n : ℕ) (row : CellRows) (patterns : List Merged) (p : ℕ) (pattern : Merged) (s : Elimination) (fill : List Bool) (result : Result (Vec ℕ Global) AllocError) → IsSystem n (equations_of row pattern.cells) s → slice_get patterns p ≡ Some pattern →
    IfOk result (λ words. IsChosen s.columns s.kept fill (bits_of s.columns words.items)) → IfOk result (λ words. (merged : Merged) → slice_get patterns p ≡ Some merged → IsChosen n (equations_of row merged.cells) fill (bits_of n words.items))
chosen_all n row patterns p pattern s fill (Ok words) is at chosen = λ merged found.
    let here : IsChosen n s.kept fill (bits_of n words.items) = subst (λ (k : ℕ). IsChosen k s.kept fill (bits_of k words.items)) is.columns chosen in
    subst (λ (m : Merged). IsChosen n (equations_of row m.cells) fill (bits_of n words.items)) (same_Some pattern merged (sym at ∙ found)) (chosen_along n s.kept (equations_of row pattern.cells) fill (bits_of n words.items) is.there is.back here)
chosen_all n row patterns p pattern s fill (Err error) is at chosen = tt

pub loads_all : (n : ℕ) (row : CellRows) (patterns : List Merged) (p : ℕ) (pattern : Merged) (s : Elimination) (result : Result (Vec ℕ Global) AllocError) → IsSystem n (equations_of row pattern.cells) s → slice_get patterns p ≡ Some pattern →
    IfOk result (λ words. Solves s.columns (bit_at (bits_of s.columns words.items)) s.kept) → IfOk result (λ words. (merged : Merged) → slice_get patterns p ≡ Some merged → Loads n row (bit_at (bits_of n words.items)) merged.cells)
loads_all n row patterns p pattern s (Ok words) is at solves = λ merged found.
    let here : Solves n (bit_at (bits_of n words.items)) s.kept = subst (λ (k : ℕ). Solves k (bit_at (bits_of k words.items)) s.kept) is.columns solves in
    subst (λ (m : Merged). Loads n row (bit_at (bits_of n words.items)) m.cells) (same_Some pattern merged (sym at ∙ found)) (solves_loads n row (bit_at (bits_of n words.items)) pattern.cells (is.there (bit_at (bits_of n words.items)) here))
loads_all n row patterns p pattern s (Err error) is at solves = tt
