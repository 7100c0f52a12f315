-- Cells and pins are found by their names.
use Rattle.std.proofs.Common.{ℕ, zero, suc, ◌≡◌, ◌+◌, Bool, true, false, not, cond, List, [], ◌∷◌, map, length, Some, option_map, Less, position, slice_get, refl, sym, ap, ◌∙◌, zero-add, arith}
use Rattle.std.specs.Prelude.{◌||◌}
use Rattle.std.specs.Str.{bytes_eq}
use Rattle.std.proofs.lemmas.Slice.Eq.{bytes_eq-Decides}
use Rattle.std.specs.List.{position_or_len}
use Rattle.std.proofs.lemmas.Bool.{and_parts}
use Rattle.std.proofs.lemmas.Cmp.{nat_list_cmp_total}
use Rattle.dft_base.proofs.TextLemmas.{bytes_eq-self}
use Rattle.dft_base.proofs.ListLemmas.{cons_by}
use Rattle.dft_cells.specs.declared.cell.Pin.{Pin}
use Rattle.dft_cells.specs.declared.cell.Cell.{Cell}
use Rattle.dft_cells.specs.Cells.{find_from, find_cell}
use Rattle.dft_cells.specs.WellFormed.{ascend, comes_before, cell_name, pin_name, has_name, all_differ}
use Rattle.dft_base.proofs.TextOrder.{order_of, less_from, differ_less}
use Rattle.dft_netlist_text.specs.Items.{pin_place}

pub position-cons : {X : Type 0} (p : X → Bool) (x : X) (xs : List X) → position p (x ∷ xs) ≡ cond (p x) (Some 0) (option_map suc (position p xs))
position-cons p x xs = cons_by (p x) (position_or_len p xs) (length xs)

before_each : (name : List ℕ) (cells : List Cell) → comes_before name (map cell_name cells) ≡ true → ascend (map cell_name cells) ≡ true
    → (k : ℕ) (cell : Cell) → slice_get cells k ≡ Some cell → order_of name cell.name ≡ Less
before_each name [] first rest k cell at = absurd (cc)
before_each name (x ∷ xs) first rest zero cell at = let e : x ≡ cell = cc in ap (λ (c : Cell). order_of name c.name) (sym e) ∙ less_from _ first
before_each name (x ∷ xs) first rest (suc k) cell at =
    let (next, more) = and_parts (comes_before x.name (map cell_name xs)) (ascend (map cell_name xs)) rest in
    nat_list_cmp_total.trans name x.name cell.name (less_from _ first) (before_each x.name xs next more k cell at)

found_from : (from : ℕ) (cells : List Cell) (k : ℕ) (cell : Cell) → ascend (map cell_name cells) ≡ true → slice_get cells k ≡ Some cell → find_from from cells cell.name ≡ Some (record { 0 = from + k })
found_from from [] k cell up at = absurd (cc)
found_from from (x ∷ xs) zero cell up at =
    let e : x ≡ cell = cc in
    let number : from ≡ from + 0 = omega arith in
    ap (λ (c : Cell). cond (bytes_eq c.name cell.name) (Some (record { 0 = from })) (find_from (from + 1) xs cell.name)) e ∙ rw (bytes_eq-self cell.name) (ap (λ n. Some (record { 0 = n })) number)
found_from from (x ∷ xs) (suc k) cell up at =
    let (first, rest) = and_parts (comes_before x.name (map cell_name xs)) (ascend (map cell_name xs)) up in
    let number : from + 1 + k ≡ from + suc k = omega arith in
    rw (differ_less x.name cell.name (before_each x.name xs first rest k cell at), found_from (from + 1) xs k cell rest at, number) refl

-- a cell is found at its place
pub find_cell-at : (cells : List Cell) (k : ℕ) (cell : Cell) → ascend (map cell_name cells) ≡ true → slice_get cells k ≡ Some cell → find_cell cells cell.name ≡ Some (record { 0 = k })
find_cell-at cells k cell up at = found_from 0 cells k cell up at ∙ ap (λ n. Some (record { 0 = n })) (zero-add k)

other_by : (b r : Bool) → not (b || r) ≡ true → (b ≡ false) × (not r ≡ true)
other_by true r h = absurd (cc)
other_by false r h = (refl, h)

none_at : (pins : List Pin) (name : List ℕ) (k : ℕ) (pin : Pin) → not (has_name (map pin_name pins) name) ≡ true → slice_get pins k ≡ Some pin → bytes_eq pin.name name ≡ false
none_at [] name k pin h at = absurd (cc)
none_at (p ∷ pins) name zero pin h at = let e : p ≡ pin = cc in ap (λ (x : Pin). bytes_eq x.name name) (sym e) ∙ (other_by (bytes_eq p.name name) (has_name (map pin_name pins) name) h).0
none_at (p ∷ pins) name (suc k) pin h at = none_at pins name k pin (other_by (bytes_eq p.name name) (has_name (map pin_name pins) name) h).1 at

turned : (t : Bool) (a b : List ℕ) → bytes_eq b a ≡ t → bytes_eq a b ≡ false → t ≡ false
turned true a b is h = absurd (let e : a ≡ b = sym ((bytes_eq-Decides b a).0 is) in let s : bytes_eq a b ≡ true = (bytes_eq-Decides a b).1 e in cc)
turned false a b is h = refl

place_from : (pins : List Pin) (k : ℕ) (pin : Pin) → all_differ (map pin_name pins) ≡ true → slice_get pins k ≡ Some pin → position (λ (p : Pin). bytes_eq p.name pin.name) pins ≡ Some k
place_from [] k pin differ at = absurd (cc)
place_from (p ∷ pins) zero pin differ at =
    let e : p ≡ pin = cc in
    position-cons (λ (p : Pin). bytes_eq p.name pin.name) p pins
    ∙ ap (λ (x : Pin). cond (bytes_eq x.name pin.name) (Some 0) (option_map suc (position (λ (p : Pin). bytes_eq p.name pin.name) pins))) e ∙ rw (bytes_eq-self pin.name) refl
place_from (p ∷ pins) (suc k) pin differ at =
    let (first, rest) = and_parts (not (has_name (map pin_name pins) p.name)) (all_differ (map pin_name pins)) differ in
    let other : bytes_eq p.name pin.name ≡ false = turned (bytes_eq p.name pin.name) pin.name p.name refl (none_at pins p.name k pin first at) in
    position-cons (λ (p : Pin). bytes_eq p.name pin.name) p pins ∙ rw (other, place_from pins k pin rest at) refl

-- a pin is found at its place
pub pin_place-at : (cell : Cell) (k : ℕ) (pin : Pin) → all_differ (map pin_name cell.pins) ≡ true → slice_get cell.pins k ≡ Some pin → pin_place cell pin.name ≡ Some k
pin_place-at cell k pin differ at = place_from cell.pins k pin differ at
