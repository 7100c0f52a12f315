-- What is collected for a list: the value at a place, and the net that an open pin is joined to by the parts of one item.
use Rattle.std.proofs.Common.{ℕ, zero, suc, ◌≡◌, ◌==◌, ◌&&◌, inl, Bool, true, false, List, [], ◌∷◌, ◌++◌, length, Option, None, Some, slice_get, refl, sym, subst, ap, arith, ◌∙◌}
use Rattle.std.specs.Prelude.{if◌then◌else◌}
use Rattle.std.proofs.lemmas.Bool.{eqb-true}
use Rattle.std.proofs.lemmas.Option.{none-some, same_Some}
use Rattle.dft_cells.specs.declared.kind.Role.TheVariants.{Output}
use Rattle.dft_netlist.specs.declared.ids.NetId.{NetId}
use Rattle.dft_netlist.specs.declared.ids.InstanceId.{InstanceId}
use Rattle.dft_netlist.specs.Connections.{same_role}
use Rattle.dft_netlist.specs.Netlist.{Netlist}
use Rattle.dft_parts.specs.Recipes.{Start, Recipe, behind, collect}
use Rattle.dft_scan_frame.specs.Moves.{Gap}
use Rattle.dft_scan_frame.specs.Pins.{number_of, own_output}
use Rattle.dft_insert.specs.Chained.{scan_roles, a_numbered_pin, an_open_output, own_or_made, an_output, a_row, rows}
use Rattle.dft_scan_behavior.proofs.FirstNets.{first_at, first-append, or_first, Found, found_first, found_later, part_found}

-- ---- values

pub collect_at : {X A : Type 0} (f : X → Recipe A) (xs : List X) (m : ℕ) (x : X) (at : Start) → slice_get xs m ≡ Some x → (a : Start) × (slice_get (collect f xs at).value m ≡ Some (f x a).value)
unfolding collect
collect_at f [] m x at h = absurd (none-some x h)
collect_at f (y ∷ xs) zero x at h = (at, ap (λ z. Some (f z at).value) (same_Some y x h))
collect_at f (y ∷ xs) (suc m) x at h = collect_at f xs m x (behind at (f y at).parts) h

pub collect_length : {X A : Type 0} (f : X → Recipe A) (xs : List X) (at : Start) → length (collect f xs at).value ≡ length xs
unfolding collect
collect_length f [] at = refl
collect_length f (x ∷ xs) at = ap suc (collect_length f xs (behind at (f x at).parts))

-- ---- nets

pub collect_none : {X A : Type 0} (f : X → Recipe A) (i p : ℕ) (xs : List X) (at : Start) → ((k : ℕ) (x : X) (a : Start) → slice_get xs k ≡ Some x → first_at (f x a).parts i p ≡ None) → first_at (collect f xs at).parts i p ≡ None
unfolding collect
collect_none f i p [] at h = refl
collect_none f i p (x ∷ xs) at h =
    let first = (f x at).parts in
    let later = (collect f xs (behind at first)).parts in
    first-append first (later ++ []) i p
    ∙ ap (λ o. or_first o (first_at (later ++ []) i p)) (h 0 x at refl)
    ∙ first-append later [] i p
    ∙ ap (λ o. or_first o None) (collect_none f i p xs (behind at first) (λ k y a there. h (suc k) y a there))

-- one item's parts join the pin to a net of its value, and the others' parts do not join it
pub collect_first : {X A : Type 0} (f : X → Recipe A) (P : A → NetId → Type 0) (i p : ℕ) (xs : List X) (m : ℕ) (x : X) (at : Start) → slice_get xs m ≡ Some x → ((a : Start) → Found (P (f x a).value) (first_at (f x a).parts i p)) →
    ((k : ℕ) (y : X) (a : Start) → slice_get xs k ≡ Some y → (k ≡ m → ⊥) → first_at (f y a).parts i p ≡ None) →
    Found (λ net. (v : A) × (slice_get (collect f xs at).value m ≡ Some v) × P v net) (first_at (collect f xs at).parts i p)
unfolding collect
collect_first f P i p [] m x at h found others = absurd (none-some x h)
collect_first {A = A} f P i p (y ∷ xs) zero x at h found others =
    let first = (f y at).parts in
    let later = (collect f xs (behind at first)).parts in
    let Q : NetId → Type 0 = λ net. (v : A) × (slice_get (collect f (y ∷ xs) at).value zero ≡ Some v) × P v net in
    let own = subst (λ z. Found (P (f z at).value) (first_at (f z at).parts i p)) (sym (same_Some y x h)) (found at) in
    subst (Found Q) (sym (first-append first (later ++ []) i p)) (found_first Q (first_at first i p) (first_at (later ++ []) i p) (own.0, own.1, ((f y at).value, refl, own.2)))
collect_first {A = A} f P i p (y ∷ xs) (suc m) x at h found others =
    let first = (f y at).parts in
    let next = behind at first in
    let later = (collect f xs next).parts in
    let Q : NetId → Type 0 = λ net. (v : A) × (slice_get (collect f (y ∷ xs) at).value (suc m) ≡ Some v) × P v net in
    let more : Found Q (first_at later i p) = collect_first f P i p xs m x next h found (λ k z a there apart. others (suc k) z a there (λ same. apart (omega (arith, same)))) in
    subst (Found Q) (sym (first-append first (later ++ []) i p))
    (found_later Q (first_at first i p) (first_at (later ++ []) i p) (inl (others 0 y at refl (λ same. omega (arith, same))))
    (subst (Found Q) (sym (first-append later [] i p)) (found_first Q (first_at later i p) None more)))

-- ---- outputs

not_here : (j pin i p : ℕ) (net : NetId) (a b : Bool) → (j == i) ≡ a → (pin == p) ≡ b → (j ≡ i → pin ≡ p → ⊥) → (if a && b then Some net else None) ≡ None
not_here j pin i p net false b is here none = refl
not_here j pin i p net true false is here none = refl
not_here j pin i p net true true is here none = absurd (none (eqb-true j i is) (eqb-true pin p here))

-- no pin of the cell that is its output is this one
abbrev pub NotOutput : Netlist → InstanceId → (i p : ℕ) → Type 0
NotOutput n cell i p = (pin : ℕ) → number_of (same_role Output) 0 (scan_roles n cell) ≡ Some pin → cell.0 ≡ i → pin ≡ p → ⊥

numbered_none : (cell : InstanceId) (o : Option ℕ) (net : NetId) (i p : ℕ) (a : Start) → ((pin : ℕ) → o ≡ Some pin → cell.0 ≡ i → pin ≡ p → ⊥) → first_at ((a_numbered_pin cell o net a).parts ++ []) i p ≡ None
numbered_none cell None net i p a h = refl
numbered_none cell (Some pin) net i p a h = not_here cell.0 pin i p net (cell.0 == i) (pin == p) refl refl (h pin refl)

own_none : (n : Netlist) (gap : Gap) (cell : InstanceId) (own : Option ℕ) (i p : ℕ) (a : Start) → NotOutput n cell i p → first_at (own_or_made n gap cell own a).parts i p ≡ None
unfolding an_open_output
own_none n gap cell (Some net) i p a h = refl
own_none n gap cell None i p a h = numbered_none cell (number_of (same_role Output) 0 (scan_roles n cell)) (record { 0 = a.next }) i p _ h

pub output_none : (n : Netlist) (gap : Gap) (cell : InstanceId) (i p : ℕ) (a : Start) → NotOutput n cell i p → first_at (an_output n gap cell a).parts i p ≡ None
output_none n gap cell i p a h = own_none n gap cell (own_output n cell) i p a h

numbered_found : (cell : InstanceId) (o : Option ℕ) (net : NetId) (p : ℕ) (a : Start) → o ≡ Some p → Found (λ k. k ≡ net) (first_at ((a_numbered_pin cell o net a).parts ++ []) cell.0 p)
numbered_found cell o net p a e = subst (λ (z : Option ℕ). Found (λ k. k ≡ net) (first_at ((a_numbered_pin cell z net a).parts ++ []) cell.0 p)) (sym e) (part_found (λ k. k ≡ net) cell.0 p cell.0 p net refl refl refl)

open_found : (n : Netlist) (gap : Gap) (cell : InstanceId) (p : ℕ) (a : Start) → number_of (same_role Output) 0 (scan_roles n cell) ≡ Some p → Found (λ net. net ≡ (own_or_made n gap cell None a).value) (first_at (own_or_made n gap cell None a).parts cell.0 p)
unfolding an_open_output
open_found n gap cell p a e = numbered_found cell (number_of (same_role Output) 0 (scan_roles n cell)) (record { 0 = a.next }) p _ e

output_found : (n : Netlist) (gap : Gap) (cell : InstanceId) (p : ℕ) (a : Start) → own_output n cell ≡ None → number_of (same_role Output) 0 (scan_roles n cell) ≡ Some p → Found (λ net. net ≡ (an_output n gap cell a).value) (first_at (an_output n gap cell a).parts cell.0 p)
output_found n gap cell p a own e = subst (λ (o : Option ℕ). Found (λ net. net ≡ (own_or_made n gap cell o a).value) (first_at (own_or_made n gap cell o a).parts cell.0 p)) (sym own) (open_found n gap cell p a e)

-- the net that is made for an open output stands at its place of the row
row_found : (n : Netlist) (gap : Gap) (cells : List InstanceId) (place : ℕ) (cell : InstanceId) (p : ℕ) (at : Start) → slice_get cells place ≡ Some cell → own_output n cell ≡ None → number_of (same_role Output) 0 (scan_roles n cell) ≡ Some p →
    ((k : ℕ) (c : InstanceId) → slice_get cells k ≡ Some c → (k ≡ place → ⊥) → c.0 ≡ cell.0 → ⊥) → Found (λ net. slice_get (a_row n gap cells at).value place ≡ Some net) (first_at (a_row n gap cells at).parts cell.0 p)
row_found n gap cells place cell p at here own e others =
    let it = collect_first (an_output n gap) (λ v net. net ≡ v) cell.0 p cells place cell at here (λ a. output_found n gap cell p a own e)
    (λ k c a there apart. output_none n gap c cell.0 p a (λ pin is same at_pin. others k c there apart same)) in
    (it.0, it.1, it.2.1 ∙ ap Some (sym it.2.2))

pub rows_found : (n : Netlist) (gap : Gap) (chains : List (List InstanceId)) (chain place : ℕ) (cells : List InstanceId) (cell : InstanceId) (p : ℕ) (at : Start) → slice_get chains chain ≡ Some cells → slice_get cells place ≡ Some cell → own_output n cell ≡ None →
    number_of (same_role Output) 0 (scan_roles n cell) ≡ Some p →
    ((other k : ℕ) (cs : List InstanceId) (c : InstanceId) → slice_get chains other ≡ Some cs → slice_get cs k ≡ Some c → c.0 ≡ cell.0 → (other ≡ chain) × (k ≡ place)) →
    Found (λ net. (row : List NetId) × (slice_get (rows n gap chains at).value chain ≡ Some row) × (slice_get row place ≡ Some net)) (first_at (rows n gap chains at).parts cell.0 p)
rows_found n gap chains chain place cells cell p at there here own e once =
    collect_first (a_row n gap) (λ row net. slice_get row place ≡ Some net) cell.0 p chains chain cells at there
    (λ a. row_found n gap cells place cell p a here own e (λ k c is apart same. apart (once chain k cells c there is same).1))
    (λ other cs a is apart. collect_none (an_output n gap) cell.0 p cs a (λ k c b stands. output_none n gap c cell.0 p b (λ pin number same at_pin. apart (once other k cs c is stands same).0)))

-- no output is this pin
pub rows_none : (n : Netlist) (gap : Gap) (chains : List (List InstanceId)) (i p : ℕ) (at : Start) → ((other k : ℕ) (cs : List InstanceId) (c : InstanceId) → slice_get chains other ≡ Some cs → slice_get cs k ≡ Some c → NotOutput n c i p) → first_at (rows n gap chains at).parts i p ≡ None
rows_none n gap chains i p at h = collect_none (a_row n gap) i p chains at (λ other cs a is. collect_none (an_output n gap) i p cs a (λ k c b stands. output_none n gap c i p b (h other k cs c is stands)))

-- the own net of a cell stands at its place of the row
pub rows_own : (n : Netlist) (gap : Gap) (chains : List (List InstanceId)) (chain place : ℕ) (cells : List InstanceId) (cell : InstanceId) (at : Start) → slice_get chains chain ≡ Some cells → slice_get cells place ≡ Some cell →
    (row : List NetId) × (slice_get (rows n gap chains at).value chain ≡ Some row) × (length row ≡ length cells) × ((a : Start) × (slice_get row place ≡ Some (an_output n gap cell a).value))
rows_own n gap chains chain place cells cell at there here =
    let outer = collect_at (a_row n gap) chains chain cells at there in
    ((a_row n gap cells outer.0).value, outer.1, collect_length (an_output n gap) cells outer.0, collect_at (an_output n gap) cells place cell outer.0 here)
