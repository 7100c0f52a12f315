-- Slots and patterns, side by side.
use Rattle.std.proofs.Common.{ℕ, zero, suc, Bool, true, false, cond, List, [], ◌∷◌, ◌++◌, ◌≡◌, ◌+◌, ◌-◌, ◌<◌, ◌≤◌, length, get_or, drop, take, ◌||◌, MatchBool, refl, sym, ap, subst, arith, ◌∙◌, ◌⊎◌, inl, inr, Option, Some, None, is_none, slice_get, slice_set, Vec, length-set}
use Rattle.std.specs.Vec.{with_items}
use Rattle.std.specs.declared.alloc.Global.{Global}
use Rattle.std.specs.Prelude.{unwrap_or}
use Rattle.std.proofs.lemmas.Bool.{MatchBool-at_false, MatchBool-at_true, both_ways, cases_eq, cases_lt, or_from, or_parts}
use Rattle.std.proofs.lemmas.Option.{same_Some, slice_get_cases, slice_get_read, slice_get_within}
use Rattle.std.proofs.lemmas.List.{drop_all, drop_more, length_push, length-drop, set_at, set-get_or, take_more}
use Rattle.std.specs.List.{AllByRecursion}
use Rattle.dft_base.specs.Solutions.{Equation, Solves, IsSolvable, sum_over}
use Rattle.dft_base.proofs.ListLemmas.{all_append, all_front, all_back}
use Rattle.dft_netlist.specs.declared.ids.InstanceId.{InstanceId}
use Rattle.dft_netlist.proofs.DriveLemmas.{get_set_same, get_set_other}
use Rattle.dft_gf2.specs.Elimination.{Elimination}
use Rattle.dft_gf2.proofs.Restorations.{solves_push}
use Rattle.dft_cubes.specs.declared.cube.Cube.{Cube}
use Rattle.dft_cubes.specs.declared.cube.Merged.{Merged}
use Rattle.dft_merge.specs.declared.slot.Slot.{Slot}
use Rattle.dft_merge.specs.Rows.{CellRows}
use Rattle.dft_merge.specs.Placement.{Fits, begun, cell_number, equations_from, equations_of, first_unscanned, has_opposite, joined, missing, port_number}
use Rattle.dft_merge.specs.Slots.{AreLoadable, AreSlots, HasPlace, HaveColumns, IsJoined, IsLoadable, IsNextCount, IsPut, IsSlot, NoneFrom}
use Rattle.dft_merge.specs.Systems.{AreWide, IsConflict, IsRefused, IsRun, IsSystem, IsTaken}
use Rattle.dft_merge.specs.Tables.{IsTable, opposes_by}
use Rattle.dft_merge.proofs.BitLemmas.{covered, each_missing, filled, opposes_same}
use Rattle.dft_merge.proofs.SystemLemmas.{run_more, run_refused, run_system, system_solvable, system_taken}
use Rattle.dft_merge.proofs.EquationLemmas.{Meets, meets_solves, solves_join, solves_left, solves_meets, solves_right}

-- ---- a pattern with a cube

-- the bits that load a pattern with what a cube adds load both
pub joined_there : (n : ℕ) (row : CellRows) (x : ℕ → Bool) (pattern : Merged) (cube : Cube) → has_opposite cell_number pattern.cells cube.cells ≡ false →
    Solves n x (equations_of row (joined pattern cube).cells) → Solves n x (equations_of row pattern.cells ++ equations_of row cube.cells)
joined_there n row x pattern cube none all =
    let P : ℕ → Bool → Type 0 = λ k b. sum_over n (unwrap_or (row (record { 0 = k })) []) x ≡ b in
    let each : AllByRecursion (Meets n row x) (pattern.cells ++ missing cell_number pattern.cells cube.cells) = solves_meets n row x (joined pattern cube).cells all in
    let front : AllByRecursion (Meets n row x) pattern.cells = all_front (Meets n row x) pattern.cells (missing cell_number pattern.cells cube.cells) each in
    let back : AllByRecursion (Meets n row x) (missing cell_number pattern.cells cube.cells) = all_back (Meets n row x) pattern.cells (missing cell_number pattern.cells cube.cells) each in
    solves_join n x (equations_of row pattern.cells) (equations_of row cube.cells) (meets_solves n row x pattern.cells front)
    (meets_solves n row x cube.cells (covered cell_number P pattern.cells cube.cells none front back))

pub joined_back : (n : ℕ) (row : CellRows) (x : ℕ → Bool) (pattern : Merged) (cube : Cube) →
    Solves n x (equations_of row pattern.cells ++ equations_of row cube.cells) → Solves n x (equations_of row (joined pattern cube).cells)
joined_back n row x pattern cube all =
    let front : AllByRecursion (Meets n row x) pattern.cells = solves_meets n row x pattern.cells (solves_left n x (equations_of row pattern.cells) (equations_of row cube.cells) all) in
    let given : AllByRecursion (Meets n row x) cube.cells = solves_meets n row x cube.cells (solves_right n x (equations_of row pattern.cells) (equations_of row cube.cells) all) in
    meets_solves n row x (joined pattern cube).cells
    (all_append (Meets n row x) pattern.cells (missing cell_number pattern.cells cube.cells) front (each_missing cell_number (Meets n row x) pattern.cells cube.cells given))

-- a system of both is one of the pattern with what the cube adds
pub system_joined : (n : ℕ) (row : CellRows) (pattern : Merged) (cube : Cube) (s : Elimination) → has_opposite cell_number pattern.cells cube.cells ≡ false →
    IsSystem n (equations_of row pattern.cells ++ equations_of row cube.cells) s → IsSystem n (equations_of row (joined pattern cube).cells) s
system_joined n row pattern cube s none is = record {
  columns = is.columns;
  wide = is.wide;
  kept = is.kept;
  there = λ x all. joined_back n row x pattern cube (is.there x all);
  back = λ x all. is.back x (joined_there n row x pattern cube none all);
}

-- ---- scanned cells

abbrev IsThere : CellRows → InstanceId × Bool → Type 0
IsThere row given = is_none (row given.0) ≡ false

scanned_case : (row : CellRows) (g : InstanceId × Bool) (cells : List (InstanceId × Bool)) (t : Bool) → is_none (row g.0) ≡ t → cond t (Some g.0) (first_unscanned row cells) ≡ None → IsThere row g × (first_unscanned row cells ≡ None)
scanned_case row g cells true is none = absurd (let f : ⊥ = cc in f)
scanned_case row g cells false is none = (is, none)

pub each_scanned : (row : CellRows) (cells : List (InstanceId × Bool)) → first_unscanned row cells ≡ None → AllByRecursion (IsThere row) cells
each_scanned row [] none = tt
each_scanned row (g ∷ cells) none = let here = scanned_case row g cells (is_none (row g.0)) refl none in (here.0, each_scanned row cells here.1)

pub scanned_each : (row : CellRows) (cells : List (InstanceId × Bool)) → AllByRecursion (IsThere row) cells → first_unscanned row cells ≡ None
scanned_each row [] each = refl
scanned_each row (g ∷ cells) each = ap (λ (t : Bool). cond t (Some g.0) (first_unscanned row cells)) each.0 ∙ scanned_each row cells each.1

-- ---- patterns that can be loaded

pub loadable_joined : (n : ℕ) (row : CellRows) (pattern : Merged) (cube : Cube) → IsLoadable n row pattern → first_unscanned row cube.cells ≡ None → Fits n row pattern cube → IsLoadable n row (joined pattern cube)
loadable_joined n row pattern cube is scanned fits = record {
  scanned = scanned_each row (joined pattern cube).cells
      (all_append (IsThere row) pattern.cells (missing cell_number pattern.cells cube.cells) (each_scanned row pattern.cells is.scanned)
      (each_missing cell_number (IsThere row) pattern.cells cube.cells (each_scanned row cube.cells scanned)));
  solvable = (fits.solvable.0, joined_back n row fits.solvable.0 pattern cube fits.solvable.1);
}

set_case : (n : ℕ) (row : CellRows) (patterns : List Merged) (p q : ℕ) (old new pattern : Merged) → AreLoadable n row patterns → IsLoadable n row new → slice_get patterns p ≡ Some old → (p ≡ q) ⊎ (p ≡ q → ⊥) → slice_get (slice_set patterns p new) q ≡ Some pattern → IsLoadable n row pattern
set_case n row patterns p q old new pattern all here at (inl same) is =
    subst (IsLoadable n row) (same_Some new pattern (sym (get_set_same patterns p old new at) ∙ ap (slice_get (slice_set patterns p new)) same ∙ is)) here
set_case n row patterns p q old new pattern all here at (inr other) is = all q pattern (sym (get_set_other patterns p q new other) ∙ is)

pub loadable_set : (n : ℕ) (row : CellRows) (patterns : List Merged) (p : ℕ) (old new : Merged) → AreLoadable n row patterns → IsLoadable n row new → slice_get patterns p ≡ Some old → AreLoadable n row (slice_set patterns p new)
loadable_set n row patterns p old new all here at q pattern is = set_case n row patterns p q old new pattern all here at (cases_eq p q) is

-- what holds of an item that was pushed, and of those before it, holds of each
pub push_each : {X : Type 0} (P : ℕ → X → Type 0) (xs : List X) (y : X) → ((k : ℕ) (x : X) → slice_get xs k ≡ Some x → P k x) → P (length xs) y → (k : ℕ) (x : X) → slice_get (xs ++ y ∷ []) k ≡ Some x → P k x
push_each P [] y each here zero x is = subst (P zero) (same_Some y x is) here
push_each P [] y each here (suc k) x is = absurd (let f : ⊥ = cc in f)
push_each P (z ∷ xs) y each here zero x is = each zero x is
push_each P (z ∷ xs) y each here (suc k) x is = push_each (λ j a. P (suc j) a) xs y (λ j a at. each (suc j) a at) here k x is

pub loadable_push : (n : ℕ) (row : CellRows) (patterns : List Merged) (new : Merged) → AreLoadable n row patterns → IsLoadable n row new → AreLoadable n row (patterns ++ new ∷ [])
loadable_push n row patterns new all here = push_each (λ k pattern. IsLoadable n row pattern) patterns new all here

-- ---- slots

slot_case : (n : ℕ) (row : CellRows) (first : ℕ) (patterns : List Merged) (slots : List Slot) (j k : ℕ) (old new slot : Slot) (was now pattern : Merged) → AreSlots n row first patterns slots →
    slice_get slots j ≡ Some old → slice_get patterns (first + j) ≡ Some was → IsSlot n row now new → (j ≡ k) ⊎ (j ≡ k → ⊥) →
    slice_get (slice_set slots j new) k ≡ Some slot → slice_get (slice_set patterns (first + j) now) (first + k) ≡ Some pattern → IsSlot n row pattern slot
slot_case n row first patterns slots j k old new slot was now pattern are at there here (inl same) is that =
    let s : new ≡ slot = same_Some new slot (sym (get_set_same slots j old new at) ∙ ap (slice_get (slice_set slots j new)) same ∙ is) in
    let p : now ≡ pattern = same_Some now pattern (sym (get_set_same patterns (first + j) was now there) ∙ ap (λ (m : ℕ). slice_get (slice_set patterns (first + j) now) (first + m)) same ∙ that) in
    subst (λ (a : Slot). IsSlot n row pattern a) s (subst (λ (a : Merged). IsSlot n row a new) p here)
slot_case n row first patterns slots j k old new slot was now pattern are at there here (inr other) is that =
    are.each k slot pattern (sym (get_set_other slots j k new other) ∙ is) (sym (get_set_other patterns (first + j) (first + k) now (λ e. other (omega arith))) ∙ that)

-- one slot and its pattern are changed
pub slots_set : (n : ℕ) (row : CellRows) (first : ℕ) (patterns : List Merged) (slots : List Slot) (j : ℕ) (old new : Slot) (was now : Merged) → AreSlots n row first patterns slots →
    slice_get slots j ≡ Some old → slice_get patterns (first + j) ≡ Some was → IsSlot n row now new → AreSlots n row first (slice_set patterns (first + j) now) (slice_set slots j new)
slots_set n row first patterns slots j old new was now are at there here = record {
  count = ap (λ (k : ℕ). first + k) (length-set slots j new) ∙ are.count ∙ sym (length-set patterns (first + j) now);
  each = λ k slot pattern is that. slot_case n row first patterns slots j k old new slot was now pattern are at there here (cases_eq j k) is that;
}

drop_slots : (n : ℕ) (row : CellRows) (first : ℕ) (patterns : List Merged) (slots : List Slot) → AreSlots n row first patterns slots → 1 ≤ length slots → AreSlots n row (first + 1) patterns (drop 1 slots)
drop_slots n row first patterns [] are some = absurd (omega arith)
drop_slots n row first patterns (slot ∷ slots) are some = record {
  count = (let count = are.count in omega arith);
  each = λ j other pattern is that. are.each (suc j) other pattern is (ap (slice_get patterns) (let e : first + suc j ≡ first + 1 + j = omega arith in e) ∙ that);
}

get_push : {X : Type 0} (xs : List X) (y : X) (k : ℕ) (x : X) → slice_get (xs ++ y ∷ []) k ≡ Some x → (k < length xs) ⊎ (length xs ≤ k) → (slice_get xs k ≡ Some x) ⊎ ((k ≡ length xs) × (y ≡ x))
get_push [] y zero x is under = inr (refl, same_Some y x is)
get_push [] y (suc k) x is under = absurd (let f : ⊥ = cc in f)
get_push (z ∷ xs) y zero x is under = inl is
get_push (z ∷ xs) y (suc k) x is under = elim (get_push xs y k x is (cases_lt k (length xs))) [ inl before ↦ inl before | inr last ↦ inr (ap suc last.0, last.1) ]

push_case : (n : ℕ) (row : CellRows) (first : ℕ) (patterns : List Merged) (slots : List Slot) (new slot : Slot) (now pattern : Merged) (j : ℕ) → AreSlots n row first patterns slots → IsSlot n row now new →
    (slice_get slots j ≡ Some slot) ⊎ ((j ≡ length slots) × (new ≡ slot)) → (slice_get patterns (first + j) ≡ Some pattern) ⊎ ((first + j ≡ length patterns) × (now ≡ pattern)) → IsSlot n row pattern slot
push_case n row first patterns slots new slot now pattern j are here (inl before) (inl that) = are.each j slot pattern before that
push_case n row first patterns slots new slot now pattern j are here (inl before) (inr last) =
    absurd (let within = slice_get_within slots j slot before in let count = are.count in let e = last.0 in omega arith)
push_case n row first patterns slots new slot now pattern j are here (inr end) (inl that) =
    absurd (let within = slice_get_within patterns (first + j) pattern that in let count = are.count in let e = end.0 in omega arith)
push_case n row first patterns slots new slot now pattern j are here (inr end) (inr last) =
    subst (λ (a : Slot). IsSlot n row pattern a) end.1 (subst (λ (a : Merged). IsSlot n row a new) last.1 here)

push_slots : (n : ℕ) (row : CellRows) (first : ℕ) (patterns : List Merged) (slots : List Slot) (new : Slot) (now : Merged) → AreSlots n row first patterns slots → IsSlot n row now new → AreSlots n row first (patterns ++ now ∷ []) (slots ++ new ∷ [])
push_slots n row first patterns slots new now are here = record {
  count = (let a = length_push slots new in let b = length_push patterns now in let count = are.count in omega arith);
  each = λ j slot pattern is that. push_case n row first patterns slots new slot now pattern j are here (get_push slots new j slot is (cases_lt j (length slots)))
      (get_push patterns now (first + j) pattern that (cases_lt (first + j) (length patterns)));
}

-- ---- a pattern that begins

-- the last of these slots is another one now
last_set : (front : List Slot) (slot other : Slot) → slice_set (front ++ slot ∷ []) (length (front ++ slot ∷ []) - 1) other ≡ front ++ other ∷ []
last_set front slot other = set_at front slot [] other (length (front ++ slot ∷ []) - 1) (let more = length_push front slot in omega arith)

put_slots : (cells ports : List (Option Bool)) (system : Elimination) (old mid : List Slot) (now : Elimination) (new front : List Slot) (slot : Slot) → mid ≡ front ++ slot ∷ [] → (put : IsPut cells ports system mid now new) → new ≡ front ++ put.slot ∷ []
put_slots cells ports system old mid now new front slot is put =
    put.slots ∙ ap (λ (l : List Slot). slice_set l (length l - 1) put.slot) is ∙ last_set front slot put.slot

get_last : (front : List Slot) (slot : Slot) → slice_get (front ++ slot ∷ []) (length (front ++ slot ∷ []) - 1) ≡ Some slot
get_last [] slot = refl
get_last (a ∷ front) slot =
    let e : length (a ∷ (front ++ slot ∷ [])) - 1 ≡ suc (length (front ++ slot ∷ []) - 1) = (let more = length_push front slot in omega arith) in
    ap (slice_get (a ∷ (front ++ slot ∷ []))) e ∙ get_last front slot

put_columns : (n : ℕ) (cells ports : List (Option Bool)) (system : Elimination) (mid : List Slot) (now : Elimination) (new front : List Slot) (slot : Slot) → mid ≡ front ++ slot ∷ [] → slot.system.columns ≡ n → IsPut cells ports system mid now new → now.columns ≡ n
put_columns n cells ports system mid now new front slot is columns put =
    let same : put.last ≡ slot = same_Some put.last slot (sym put.is ∙ ap (λ (l : List Slot). slice_get l (length l - 1)) is ∙ get_last front slot) in
    ap (λ (s : Elimination). s.columns) put.exchanged ∙ ap (λ (a : Slot). a.system.columns) same ∙ columns

-- what holds of slots and patterns once a pattern has begun
pub record Opened (n : ℕ) (row : CellRows) (window : ℕ) (old : List Slot) (patterns : List Merged) (new : List Slot) (now : Elimination) : Type 0 where
  pub columns : now.columns ≡ n
  pub slots : AreSlots n row (length patterns - length new) patterns new
  pub count : IsNextCount window (length old) (length new)

begun_slot : (n : ℕ) (row : CellRows) (cube : Cube) (cells ports : List (Option Bool)) (system : Elimination) (mid : List Slot) (now : Elimination) (new : List Slot) → IsSystem n (equations_of row cube.cells) system →
    IsTable cell_number cube.cells cells → IsTable port_number cube.ports ports → (put : IsPut cells ports system mid now new) → IsSlot n row (begun cube) put.slot
begun_slot n row cube cells ports system mid now new is cells_are ports_are put = record {
  system = subst (IsSystem n (equations_of row cube.cells)) (sym put.system_is) is;
  cells = subst (IsTable cell_number cube.cells) (sym put.cells_are) cells_are;
  ports = subst (IsTable port_number cube.ports) (sym put.ports_are) ports_are;
}

opened_case : (n : ℕ) (row : CellRows) (window : ℕ) (cube : Cube) (cells ports : List (Option Bool)) (system : Elimination) (old mid : List Slot) (patterns : List Merged) (now : Elimination) (new : List Slot) →
    1 ≤ window → length old ≤ window → AreSlots n row (length patterns - length old) patterns old → (place : HasPlace n window old mid) → (put : IsPut cells ports system mid now new) → IsSlot n row (begun cube) put.slot →
    (length old < window) ⊎ (window ≤ length old) → Opened n row window old (patterns ++ begun cube ∷ []) new now
opened_case n row window cube cells ports system old mid patterns now new some few are place put here (inl less) =
    let is : new ≡ old ++ put.slot ∷ [] = put_slots cells ports system old mid now new old place.slot (place.more less) put in
    let more = length_push old put.slot in
    let longer = length_push patterns (begun cube) in
    let size : length new ≡ length old + 1 = ap length is ∙ more in
    let count = are.count in
    let first : length patterns - length old ≡ length (patterns ++ begun cube ∷ []) - length new = omega arith in
    record {
      columns = put_columns n cells ports system mid now new old place.slot (place.more less) place.columns put;
      slots = subst (λ (l : List Slot). AreSlots n row (length (patterns ++ begun cube ∷ []) - length new) (patterns ++ begun cube ∷ []) l) (sym is)
          (subst (λ (k : ℕ). AreSlots n row k (patterns ++ begun cube ∷ []) (old ++ put.slot ∷ [])) first (push_slots n row (length patterns - length old) patterns old put.slot (begun cube) are here));
      count = ((λ under. size), (λ full. omega arith));
    }
opened_case n row window cube cells ports system old mid patterns now new some few are place put here (inr full) =
    let is : new ≡ drop 1 old ++ put.slot ∷ [] = put_slots cells ports system old mid now new (drop 1 old) place.slot (place.same full) put in
    let more = length_push (drop 1 old) put.slot in
    let less = length-drop 1 old in
    let longer = length_push patterns (begun cube) in
    let size : length new ≡ length old = ap length is ∙ more ∙ omega arith in
    let count = are.count in
    let first : length patterns - length old + 1 ≡ length (patterns ++ begun cube ∷ []) - length new = omega arith in
    record {
      columns = put_columns n cells ports system mid now new (drop 1 old) place.slot (place.same full) place.columns put;
      slots = subst (λ (l : List Slot). AreSlots n row (length (patterns ++ begun cube ∷ []) - length new) (patterns ++ begun cube ∷ []) l) (sym is)
          (subst (λ (k : ℕ). AreSlots n row k (patterns ++ begun cube ∷ []) (drop 1 old ++ put.slot ∷ [])) first
          (push_slots n row (length patterns - length old + 1) patterns (drop 1 old) put.slot (begun cube) (drop_slots n row (length patterns - length old) patterns old are (omega arith)) here));
      count = ((λ under. omega arith), (λ all. size));
    }

pub opened : (n : ℕ) (row : CellRows) (window : ℕ) (cube : Cube) (cells ports : List (Option Bool)) (system : Elimination) (old mid : List Slot) (patterns : List Merged) (now : Elimination) (new : List Slot) →
    (some : 1 ≤ window) → (few : length old ≤ window) → (are : AreSlots n row (length patterns - length old) patterns old) → (place : HasPlace n window old mid) → (put : IsPut cells ports system mid now new) → (is : IsSystem n (equations_of row cube.cells) system) →
    (cells_are : IsTable cell_number cube.cells cells) → (ports_are : IsTable port_number cube.ports ports) → Opened n row window old (patterns ++ begun cube ∷ []) new now
opened n row window cube cells ports system old mid patterns now new some few are place put is cells_are ports_are =
    opened_case n row window cube cells ports system old mid patterns now new some few are place put (begun_slot n row cube cells ports system mid now new is cells_are ports_are put) (cases_lt (length old) window)

-- ---- loops over cells

there_at : (row : CellRows) (cells : List (InstanceId × Bool)) (i : ℕ) (x : InstanceId × Bool) → AllByRecursion (IsThere row) cells → i < length cells → x ≡ get_or cells i x → IsThere row x
there_at row [] i x each less is = absurd (omega arith)
there_at row (g ∷ cells) zero x each less is = subst (IsThere row) (sym is) each.0
there_at row (g ∷ cells) (suc i) x each less is = there_at row cells i x each.1 (omega arith) is

-- each of scanned cells is scanned
pub scanned_at : (row : CellRows) (cells : List (InstanceId × Bool)) (i : ℕ) (x : InstanceId × Bool) → first_unscanned row cells ≡ None → i < length cells → x ≡ get_or cells i x → row x.0 ≡ None → ⊥
scanned_at row cells i x scanned less is none = both_ways (is_none (row x.0)) (there_at row cells i x (each_scanned row cells scanned) less is) (ap is_none none)

pub equations_drop : (row : CellRows) (k : ℕ) (cells : List (InstanceId × Bool)) (i : ℕ) (x : InstanceId × Bool) → i < length cells → x ≡ get_or cells i x →
    equations_from row k (drop i cells) ≡ record { row = unwrap_or (row x.0) []; bit = x.1; id = k } ∷ equations_from row (k + 1) (drop (i + 1) cells)
equations_drop row k cells i x less is =
    ap (equations_from row k) (drop_more cells i x less ∙ ap (λ (y : InstanceId × Bool). y ∷ drop (i + 1) cells) (sym is))
    ∙ ap (λ (m : ℕ). record { row = unwrap_or (row x.0) []; bit = x.1; id = k } ∷ equations_from row m (drop (i + 1) cells)) (let e : suc k ≡ k + 1 = omega arith in e)

row_size : (n : ℕ) (row : CellRows) → ((cell : InstanceId) (r : List Bool) → row cell ≡ Some r → length r ≡ n) → (cell : InstanceId) (o : Option (List Bool)) → row cell ≡ o → (row cell ≡ None → ⊥) → length (unwrap_or o []) ≡ n
row_size n row wide cell None is some = absurd (some is)
row_size n row wide cell (Some r) is some = wide cell r is

pub size_of : (n : ℕ) (row : CellRows) → ((cell : InstanceId) (r : List Bool) → row cell ≡ Some r → length r ≡ n) → (cell : InstanceId) → (row cell ≡ None → ⊥) → length (unwrap_or (row cell) []) ≡ n
size_of n row wide cell some = row_size n row wide cell (row cell) refl some

pub wide_equations : (n : ℕ) (row : CellRows) (k : ℕ) (cells : List (InstanceId × Bool)) → ((cell : InstanceId) (r : List Bool) → row cell ≡ Some r → length r ≡ n) → first_unscanned row cells ≡ None → AreWide n (equations_from row k cells)
wide_equations n row k [] wide scanned j less = absurd (omega arith)
wide_equations n row k (g ∷ cells) wide scanned zero less = size_of n row wide g.0 (scanned_at row (g ∷ cells) 0 g scanned (omega arith) refl)
wide_equations n row k (g ∷ cells) wide scanned (suc j) less = wide_equations n row (suc k) cells wide (scanned_case row g cells (is_none (row g.0)) refl scanned).1 j (omega arith)

-- ---- a run over cells

-- the equation of the cell at a place
abbrev pub equation_of : CellRows → InstanceId → Bool → ℕ → Equation
equation_of row cell bit id = record { row = unwrap_or (row cell) []; bit = bit; id = id }

pub run_cell : (n : ℕ) (row : CellRows) (old now next : List Equation) (cells : List (InstanceId × Bool)) (i : ℕ) (x : InstanceId × Bool) → i < length cells → x ≡ get_or cells i x → length (unwrap_or (row x.0) []) ≡ n →
    IsRun n old (equations_of row cells) now (equations_from row i (drop i cells)) → IsTaken n now (equation_of row x.0 x.1 i) next → IsRun n old (equations_of row cells) next (equations_from row (i + 1) (drop (i + 1) cells))
run_cell n row old now next cells i x less is size run taken =
    run_more n old (equations_of row cells) now (equations_from row (i + 1) (drop (i + 1) cells)) (equation_of row x.0 x.1 i) next size
    (subst (IsRun n old (equations_of row cells) now) (equations_drop row i cells i x less is) run) taken

pub refused_cell : (n : ℕ) (row : CellRows) (old now new : Elimination) (cells : List (InstanceId × Bool)) (i : ℕ) (x : InstanceId × Bool) → i < length cells → x ≡ get_or cells i x →
    IsRun n old.kept (equations_of row cells) now.kept (equations_from row i (drop i cells)) → IsConflict n (equation_of row x.0 x.1 i) now new → IsRefused n (equations_of row cells) old new
refused_cell n row old now new cells i x less is run conflict =
    run_refused n (equations_of row cells) (equations_from row (i + 1) (drop (i + 1) cells)) (equation_of row x.0 x.1 i) old now new
    (subst (IsRun n old.kept (equations_of row cells) now.kept) (equations_drop row i cells i x less is) run) conflict

pub run_all : (n : ℕ) (row : CellRows) (old now : List Equation) (cells : List (InstanceId × Bool)) (i : ℕ) → length cells ≤ i → IsRun n old (equations_of row cells) now (equations_from row i (drop i cells)) → IsRun n old (equations_of row cells) now []
run_all n row old now cells i past run = subst (IsRun n old (equations_of row cells) now) (ap (equations_from row i) (drop_all i cells past)) run

-- ---- a system of cells that are added again

each_take : (P : InstanceId × Bool → Type 0) (i : ℕ) (xs : List (InstanceId × Bool)) → AllByRecursion P xs → AllByRecursion P (take i xs)
each_take P zero xs each = tt
each_take P (suc i) [] each = tt
each_take P (suc i) (x ∷ xs) each = (each.0, each_take P i xs each.1)

each_at : (P : InstanceId × Bool → Type 0) (xs : List (InstanceId × Bool)) (i : ℕ) (x : InstanceId × Bool) → AllByRecursion P xs → i < length xs → x ≡ get_or xs i x → P x
each_at P [] i x each less is = absurd (omega arith)
each_at P (y ∷ xs) zero x each less is = subst P (sym is) each.0
each_at P (y ∷ xs) (suc i) x each less is = each_at P xs i x each.1 (omega arith) is

taken_again : (n : ℕ) (row : CellRows) (cells : List (InstanceId × Bool)) (i : ℕ) (x : InstanceId × Bool) (old new : Elimination) → i < length cells → x ≡ get_or cells i x → length (unwrap_or (row x.0) []) ≡ n → new.columns ≡ n →
    IsSystem n (equations_of row (take i cells)) old → IsTaken n old.kept (equation_of row x.0 x.1 0) new.kept → IsSystem n (equations_of row (take (i + 1) cells)) new
taken_again n row cells i x old new less is size columns before taken =
    let e : Equation = equation_of row x.0 x.1 0 in
    let es : List Equation = equations_of row (take i cells) in
    let now : IsSystem n (es ++ e ∷ []) new = system_taken n es e old new before columns size taken in
    let split : take (i + 1) cells ≡ take i cells ++ x ∷ [] = take_more cells i x less ∙ ap (λ (y : InstanceId × Bool). take i cells ++ y ∷ []) (sym is) in
    record {
      columns = columns;
      wide = now.wide;
      kept = now.kept;
      there = λ y all.
          (let here : Solves n y (es ++ e ∷ []) = now.there y all in
          let front : AllByRecursion (Meets n row y) (take i cells) = solves_meets n row y (take i cells) (solves_left n y es (e ∷ []) here) in
          let last : Meets n row y x = solves_right n y es (e ∷ []) here 0 (omega arith) in
          subst (λ (l : List (InstanceId × Bool)). Solves n y (equations_of row l)) (sym split)
          (meets_solves n row y (take i cells ++ x ∷ []) (all_append (Meets n row y) (take i cells) (x ∷ []) front (last, tt))));
      back = λ y all.
          (let each : AllByRecursion (Meets n row y) (take i cells ++ x ∷ []) = solves_meets n row y (take i cells ++ x ∷ []) (subst (λ (l : List (InstanceId × Bool)). Solves n y (equations_of row l)) split all) in
          let front : Solves n y es = meets_solves n row y (take i cells) (all_front (Meets n row y) (take i cells) (x ∷ []) each) in
          let last : AllByRecursion (Meets n row y) (x ∷ []) = all_back (Meets n row y) (take i cells) (x ∷ []) each in
          now.back y (solves_push n y es e front last.0));
    }

never_again : (n : ℕ) (row : CellRows) (cells : List (InstanceId × Bool)) (i : ℕ) (x : InstanceId × Bool) (old new : Elimination) → i < length cells → x ≡ get_or cells i x → IsSolvable n (equations_of row cells) →
    IsSystem n (equations_of row (take i cells)) old → IsConflict n (equation_of row x.0 x.1 0) old new → ⊥
never_again n row cells i x old new less is solved before conflict =
    let each : AllByRecursion (Meets n row solved.0) cells = solves_meets n row solved.0 cells solved.1 in
    conflict.none solved.0 (before.back solved.0 (meets_solves n row solved.0 (take i cells) (each_take (Meets n row solved.0) i cells each))) (each_at (Meets n row solved.0) cells i x each less is)

-- one cell more, whose equation cannot be refused
pub added_again : (n : ℕ) (row : CellRows) (cells : List (InstanceId × Bool)) (i : ℕ) (x : InstanceId × Bool) (old new : Elimination) (b : Bool) → i < length cells → x ≡ get_or cells i x → length (unwrap_or (row x.0) []) ≡ n → new.columns ≡ n →
    IsSolvable n (equations_of row cells) → IsSystem n (equations_of row (take i cells)) old → MatchBool b (IsTaken n old.kept (equation_of row x.0 x.1 0) new.kept) (IsConflict n (equation_of row x.0 x.1 0) old new) →
    IsSystem n (equations_of row (take (i + 1) cells)) new
added_again n row cells i x old new true less is size columns solved before added = taken_again n row cells i x old new less is size columns before added
added_again n row cells i x old new false less is size columns solved before added = absurd (never_again n row cells i x old new less is solved before added)

-- ---- a system that goes back

pub system_back : (n : ℕ) (es : List Equation) (old mid new : Elimination) (mark : ℕ) → IsSystem n es old → mid.columns ≡ n → take (length old.kept) mid.kept ≡ old.kept → mark ≡ length old.kept →
    new ≡ record { columns = mid.columns; kept = take mark mid.kept; refused = None } → IsSystem n es new
system_back n es old mid new mark is columns front at back =
    let kept : new.kept ≡ old.kept = ap (λ (s : Elimination). s.kept) back ∙ ap (λ (k : ℕ). take k mid.kept) at ∙ front in
    record {
      columns = ap (λ (s : Elimination). s.columns) back ∙ columns;
      wide = rw kept is.wide;
      kept = rw kept is.kept;
      there = λ x all. is.there x (subst (Solves n x) kept all);
      back = λ x all. subst (Solves n x) (sym kept) (is.back x all);
    }

-- ---- whether a cube fits

pub fits_not : (n : ℕ) (row : CellRows) (pattern : Merged) (cube : Cube) (old new : Elimination) → IsSystem n (equations_of row pattern.cells) old → IsRefused n (equations_of row cube.cells) old new → Fits n row pattern cube → ⊥
fits_not n row pattern cube old new is refused fits =
    let x = fits.solvable.0 in
    refused.none x (is.back x (solves_left n x (equations_of row pattern.cells) (equations_of row cube.cells) fits.solvable.1)) (solves_right n x (equations_of row pattern.cells) (equations_of row cube.cells) fits.solvable.1)

-- whether tables tell an opposite bit of a cell or a port
abbrev pub Tells : List (Option Bool) → List (Option Bool) → Cube → Bool
Tells cells ports cube = opposes_by cell_number cells cube.cells || opposes_by port_number ports cube.ports

pub opposite_not : (n : ℕ) (row : CellRows) (pattern : Merged) (cube : Cube) (cells ports : List (Option Bool)) → IsTable cell_number pattern.cells cells → IsTable port_number pattern.ports ports →
    Tells cells ports cube ≡ true → Fits n row pattern cube → ⊥
opposite_not n row pattern cube cells ports cells_are ports_are told fits =
    both_ways (Tells cells ports cube)
    (or_from (opposes_by cell_number cells cube.cells) (opposes_by port_number ports cube.ports) (opposes_same cell_number pattern.cells cube.cells cells cells_are ∙ fits.cells)
    (opposes_same port_number pattern.ports cube.ports ports ports_are ∙ fits.ports)) told

pub no_opposite : (pattern : Merged) (cube : Cube) (cells ports : List (Option Bool)) → IsTable cell_number pattern.cells cells → IsTable port_number pattern.ports ports → Tells cells ports cube ≡ false →
    (has_opposite cell_number pattern.cells cube.cells ≡ false) × (has_opposite port_number pattern.ports cube.ports ≡ false)
no_opposite pattern cube cells ports cells_are ports_are told =
    let parts = or_parts (opposes_by cell_number cells cube.cells) (opposes_by port_number ports cube.ports) told in
    (sym (opposes_same cell_number pattern.cells cube.cells cells cells_are) ∙ parts.0, sym (opposes_same port_number pattern.ports cube.ports ports ports_are) ∙ parts.1)

pub fits_joined : (n : ℕ) (row : CellRows) (pattern : Merged) (cube : Cube) (cells ports : List (Option Bool)) (s : Elimination) → pattern.domains ≡ cube.domains → IsTable cell_number pattern.cells cells → IsTable port_number pattern.ports ports → Tells cells ports cube ≡ false →
    IsSystem n (equations_of row pattern.cells ++ equations_of row cube.cells) s → Fits n row pattern cube
fits_joined n row pattern cube cells ports s same cells_are ports_are told is =
    let none = no_opposite pattern cube cells ports cells_are ports_are told in
    record { domains = same; cells = none.0; ports = none.1; solvable = system_solvable n (equations_of row pattern.cells ++ equations_of row cube.cells) s is }

-- ---- reading slots

pub slots_columns : (n : ℕ) (row : CellRows) (first : ℕ) (patterns : List Merged) (slots : List Slot) → AreSlots n row first patterns slots → HaveColumns n slots
slots_columns n row first patterns slots are j slot is =
    let within = slice_get_within slots j slot is in
    let count = are.count in
    let some = slice_get_cases patterns (first + j) in
    elim some.1 [
      | inl found ↦ (are.each j slot found.0 is found.2).system.columns
      | inr past ↦ absurd (let over = past.0 in omega arith)
    ]

pub oldest_last : (slots : List Slot) → 1 ≤ length slots → (slot : Slot) × ((slice_get slots 0 ≡ Some slot) × (drop 1 slots ++ take 1 slots ≡ drop 1 slots ++ slot ∷ []))
oldest_last [] some = absurd (omega arith)
oldest_last (slot ∷ slots) some = (slot, (refl, refl))

-- a list in which an item is put in its own place
pub set_itself : {X : Type 0} (xs : List X) (i : ℕ) (x y : X) → x ≡ get_or xs i x → y ≡ x → slice_set xs i y ≡ xs
set_itself xs i x y is same = ap (slice_set xs i) (same ∙ is) ∙ set-get_or xs i x

pub before_more : (n : ℕ) (row : CellRows) (first : ℕ) (patterns : List Merged) (cube : Cube) (place : ℕ) (pattern : Merged) → NoneFrom n row first patterns cube (first + place) → slice_get patterns (first + place) ≡ Some pattern → (Fits n row pattern cube → ⊥) →
    NoneFrom n row first patterns cube (first + (place + 1))
before_more n row first patterns cube place pattern before at never q other from less is fits = elim (cases_lt q (first + place)) [
  | inl under ↦ before q other from under is fits
  | inr past ↦ (let here : q ≡ first + place = omega arith in
      never (subst (λ (p : Merged). Fits n row p cube) (same_Some other pattern (sym is ∙ ap (slice_get patterns) here ∙ at)) fits))
]

-- ---- a cube that fits

-- the system of a slot to which all equations of a cube were added
pub both_system : (n : ℕ) (row : CellRows) (pattern : Merged) (cube : Cube) (slot : Slot) (lent : List (InstanceId × Bool)) (s : Elimination) → IsSlot n row pattern slot → lent ≡ cube.cells → s.columns ≡ n →
    IsRun n slot.system.kept (equations_of row lent) s.kept [] → IsSystem n (equations_of row pattern.cells ++ equations_of row cube.cells) s
both_system n row pattern cube slot lent s is from columns run =
    run_system n (equations_of row pattern.cells) (equations_of row cube.cells) slot.system s is.system columns
    (subst (λ (cells : List (InstanceId × Bool)). IsRun n slot.system.kept (equations_of row cells) s.kept []) from run)

-- the tables of a slot tell no opposite bit
tells_not : (cube : Cube) (slot : Slot) (told : Bool) (a b : List (Option Bool)) → a ≡ slot.cells.items → b ≡ slot.ports.items → told ≡ (opposes_by cell_number a cube.cells || opposes_by port_number b cube.ports) → told ≡ false →
    Tells slot.cells.items slot.ports.items cube ≡ false
tells_not cube slot told a b cells ports is not = (λ i. opposes_by cell_number (sym cells i) cube.cells || opposes_by port_number (sym ports i) cube.ports) ∙ sym is ∙ not

-- a slot whose tables and system have taken a cube in is that of the joined pattern
pub slot_joined : (n : ℕ) (row : CellRows) (pattern next : Merged) (cube : Cube) (slot new : Slot) (lent : List (InstanceId × Bool)) (s : Elimination) (told : Bool) (a b : List (Option Bool)) → (is : IsSlot n row pattern slot) →
    (cells : a ≡ slot.cells.items) → (ports : b ≡ slot.ports.items) → (tells : told ≡ (opposes_by cell_number a cube.cells || opposes_by port_number b cube.ports)) → (not : told ≡ false) → (from : lent ≡ cube.cells) → (columns : s.columns ≡ n) → (run : IsRun n slot.system.kept (equations_of row lent) s.kept []) →
    (joins : next ≡ joined pattern cube) → (system : new.system ≡ s) → (new_cells : IsTable cell_number next.cells new.cells.items) → (new_ports : IsTable port_number next.ports new.ports.items) → IsSlot n row next new
slot_joined n row pattern next cube slot new lent s told a b is cells ports tells not from columns run joins system new_cells new_ports = record {
  system = subst (λ (m : Merged). IsSystem n (equations_of row m.cells) new.system) (sym joins)
      (subst (IsSystem n (equations_of row (joined pattern cube).cells)) (sym system)
      (system_joined n row pattern cube s (no_opposite pattern cube slot.cells.items slot.ports.items is.cells is.ports (tells_not cube slot told a b cells ports tells not)).0
      (both_system n row pattern cube slot lent s is from columns run)));
  cells = new_cells;
  ports = new_ports;
}

pub slot_fits : (n : ℕ) (row : CellRows) (pattern : Merged) (cube : Cube) (slot : Slot) (lent : List (InstanceId × Bool)) (s : Elimination) (told : Bool) (a b : List (Option Bool)) → (is : IsSlot n row pattern slot) → (same : pattern.domains ≡ cube.domains) →
    (cells : a ≡ slot.cells.items) → (ports : b ≡ slot.ports.items) → (tells : told ≡ (opposes_by cell_number a cube.cells || opposes_by port_number b cube.ports)) → (not : told ≡ false) → (from : lent ≡ cube.cells) → (columns : s.columns ≡ n) → (run : IsRun n slot.system.kept (equations_of row lent) s.kept []) → Fits n row pattern cube
slot_fits n row pattern cube slot lent s told a b is same cells ports tells not from columns run =
    fits_joined n row pattern cube slot.cells.items slot.ports.items s same is.cells is.ports (tells_not cube slot told a b cells ports tells not) (both_system n row pattern cube slot lent s is from columns run)

-- ---- an open pattern that was tried

-- slots and patterns behind a try that changed nothing of the pattern
pub tried : (n : ℕ) (row : CellRows) (first : ℕ) (patterns : List Merged) (slots : List Slot) (place : ℕ) (slot new : Slot) (pattern next : Merged) → AreSlots n row first patterns slots → place < length slots → slot ≡ get_or slots place slot → pattern ≡ get_or patterns (first + place) pattern →
    IsSlot n row next new → AreSlots n row first (slice_set patterns (first + place) next) (slice_set slots place new)
tried n row first patterns slots place slot new pattern next are less is that here =
    let count = are.count in
    slots_set n row first patterns slots place slot new pattern next are (slice_get_read slots (length slots) place slot refl less is) (slice_get_read patterns (length patterns) (first + place) pattern refl (omega arith) that) here

pub there_is : (n : ℕ) (row : CellRows) (first : ℕ) (patterns : List Merged) (slots : List Slot) (place : ℕ) (pattern : Merged) → AreSlots n row first patterns slots → place < length slots → pattern ≡ get_or patterns (first + place) pattern → slice_get patterns (first + place) ≡ Some pattern
there_is n row first patterns slots place pattern are less that = let count = are.count in slice_get_read patterns (length patterns) (first + place) pattern refl (omega arith) that

-- the same, where the slots are those of a vector that was lent
pub opened_all : (n : ℕ) (row : CellRows) (window : ℕ) (cube : Cube) (cells ports : List (Option Bool)) (system : Elimination) (old : List Slot) (mid : Vec Slot Global) (lent : List Slot) (patterns before next : List Merged) (pattern : Merged) (now : Elimination) (new : List Slot) →
    (some : 1 ≤ window) → (few : length old ≤ window) → (are : AreSlots n row (length patterns - length old) patterns old) → (place : HasPlace n window old mid.items) → (from : lent ≡ mid.items) → (put : IsPut cells ports system lent now new) → (size : length new ≡ length lent) → (is : IsSystem n (equations_of row cube.cells) system) →
    (cells_are : IsTable cell_number cube.cells cells) → (ports_are : IsTable port_number cube.ports ports) → (pushed : next ≡ before ++ pattern ∷ []) → (same : before ≡ patterns) → (begins : pattern ≡ begun cube) → Opened n row window old next (with_items mid new).items now
opened_all n row window cube cells ports system old mid lent patterns before next pattern now new some few are place from put size is cells_are ports_are pushed same begins =
    let items : (with_items mid new).items ≡ new = filled mid new lent size from in
    let here : IsPut cells ports system mid.items now new = subst (λ (l : List Slot). IsPut cells ports system l now new) from put in
    let all : Opened n row window old (patterns ++ begun cube ∷ []) new now = opened n row window cube cells ports system old mid.items patterns now new some few are place here is cells_are ports_are in
    subst (λ (l : List Merged). Opened n row window old l (with_items mid new).items now) (sym (pushed ∙ (λ i. same i ++ begins i ∷ [])))
    (subst (λ (l : List Slot). Opened n row window old (patterns ++ begun cube ∷ []) l now) (sym items) all)

-- ---- what a try tells

-- what a try tells of a pattern and a cube, where the pattern became another one
abbrev pub Told : ℕ → CellRows → (was next : Merged) → Cube → Bool → Type 0
Told n row was next cube fits = MatchBool fits (Fits n row was cube × (next ≡ joined was cube)) ((Fits n row was cube → ⊥) × (next ≡ was))

pub found_joined : (n : ℕ) (row : CellRows) (first : ℕ) (start patterns : List Merged) (slots : List Slot) (place : ℕ) (pattern next : Merged) (cube : Cube) (b : Bool) → (are : AreSlots n row first patterns slots) → (same : patterns ≡ start) → (less : place < length slots) →
    (is : pattern ≡ get_or patterns (first + place) pattern) → (passed : b ≡ true) → (told : Told n row (get_or patterns (first + place) pattern) next cube b) → (before : NoneFrom n row first start cube (first + place)) →
    IsJoined n row first start cube (slice_set patterns (first + place) next) (first + place)
found_joined n row first start patterns slots place pattern next cube b are same less is passed told before =
    let both : Fits n row (get_or patterns (first + place) pattern) cube × (next ≡ joined (get_or patterns (first + place) pattern) cube) = MatchBool-at_true _ _ passed told in
    record {
      pattern = pattern;
      is = subst (λ (l : List Merged). slice_get l (first + place) ≡ Some pattern) same (there_is n row first patterns slots place pattern are less is);
      open_is = omega arith;
      fits = subst (λ (m : Merged). Fits n row m cube) (sym is) both.0;
      before = before;
      patterns = (λ i. slice_set (same i) (first + place) next) ∙ ap (slice_set start (first + place)) (both.1 ∙ ap (λ (m : Merged). joined m cube) (sym is));
    }

pub found_none : (n : ℕ) (row : CellRows) (first : ℕ) (start patterns : List Merged) (slots : List Slot) (place : ℕ) (pattern next : Merged) (cube : Cube) (b : Bool) → (are : AreSlots n row first patterns slots) → (same : patterns ≡ start) → (less : place < length slots) →
    (is : pattern ≡ get_or patterns (first + place) pattern) → (failed : b ≡ false) → (told : Told n row (get_or patterns (first + place) pattern) next cube b) → (before : NoneFrom n row first start cube (first + place)) →
    (slice_set patterns (first + place) next ≡ start) × NoneFrom n row first start cube (first + (place + 1))
found_none n row first start patterns slots place pattern next cube b are same less is failed told before =
    let both : (Fits n row (get_or patterns (first + place) pattern) cube → ⊥) × (next ≡ get_or patterns (first + place) pattern) = MatchBool-at_false _ _ failed told in (
      set_itself patterns (first + place) pattern next is (both.1 ∙ sym is) ∙ same,
      before_more n row first start cube place pattern before (subst (λ (l : List Merged). slice_get l (first + place) ≡ Some pattern) same (there_is n row first patterns slots place pattern are less is))
          (λ fits. both.0 (subst (λ (m : Merged). Fits n row m cube) is fits)),
    )
