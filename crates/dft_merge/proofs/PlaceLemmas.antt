-- Where cells stand, and their load equations.
use Rattle.std.proofs.Common.{ℕ, zero, suc, Bool, false, List, [], ◌∷◌, ◌≡◌, ◌+◌, ◌<◌, ◌≤◌, ◌==◌, length, get_or, refl, sym, ap, arith, ◌∙◌, ◌⊎◌, inl, inr, Option, Some, None, option_map, slice_get}
use Rattle.std.proofs.lemmas.Bool.{cases_lt, cond-true, eqb-true, eq-eqb, both_ways, lt-ltb}
use Rattle.std.proofs.lemmas.Option.{same_Some, slice_get-get_or, slice_get_within, get_or_from_slice_get}
use Rattle.std.proofs.lemmas.List.Quantifiers.{position-Some}
use Rattle.std.proofs.lemmas.List.Sums.{fails_before_first}
use Rattle.std.proofs.lemmas.List.{ext_get_or, get_or_past}
use Rattle.dft_base.specs.Packed.{packed_bit}
use Rattle.dft_base.specs.Solutions.{bit_at}
use Rattle.dft_lanes.specs.Rows.{bits_of, words_for, IsPacked}
use Rattle.dft_lanes.proofs.RowLemmas.{bits-at, length-bits_of}
use Rattle.std.specs.List.{position_or_len}
use Rattle.dft_netlist.specs.declared.ids.InstanceId.{InstanceId}
use Rattle.dft_stitch.specs.declared.places.CellPlace.{CellPlace}
use Rattle.dft_stitch.specs.Plans.{cell_at}
use Rattle.dft_equations.specs.LoadRows.{LoadRows, row_of}
use Rattle.dft_merge.specs.Rows.{StandApart, cell_row, or_else, place_from, place_in}
use Rattle.dft_merge.specs.Slots.{AreRows}

-- ---- places in a chain

pub same_cell : (a b : InstanceId) → a.0 ≡ b.0 → a ≡ b
same_cell a b same = λ i. record { 0 = same i }

abbrev is_cell : InstanceId → InstanceId → Bool
is_cell cell other = other.0 == cell.0

place_found : (cells : List InstanceId) (cell : InstanceId) (place : ℕ) → place_in cells cell ≡ Some place → slice_get cells place ≡ Some cell
place_found cells cell place is =
    let found = position-Some (is_cell cell) cells place cell is in
    slice_get-get_or cells place cell found.0 ∙ ap (λ (c : InstanceId). Some c) (same_cell (get_or cells place cell) cell (eqb-true (get_or cells place cell).0 cell.0 found.1))

missed_case : (cells : List InstanceId) (cell : InstanceId) (place : ℕ) → (position_or_len (is_cell cell) cells < length cells) ⊎ (length cells ≤ position_or_len (is_cell cell) cells) → place_in cells cell ≡ None → slice_get cells place ≡ Some cell → ⊥
missed_case cells cell place (inl less) none is =
    let some : place_in cells cell ≡ Some (position_or_len (is_cell cell) cells) = cond-true _ (Some (position_or_len (is_cell cell) cells)) None (lt-ltb (position_or_len (is_cell cell) cells) (length cells) less) in cc
missed_case cells cell place (inr past) none is =
    let within : place < length cells = slice_get_within cells place cell is in
    both_ways (is_cell cell (get_or cells place cell)) (fails_before_first (is_cell cell) cells place cell (omega arith))
    (ap (is_cell cell) (get_or_from_slice_get cells place cell cell is) ∙ eq-eqb cell.0 cell.0 refl)

place_missed : (cells : List InstanceId) (cell : InstanceId) (place : ℕ) → place_in cells cell ≡ None → slice_get cells place ≡ Some cell → ⊥
place_missed cells cell place none is = missed_case cells cell place (cases_lt (position_or_len (is_cell cell) cells) (length cells)) none is

-- ---- places in the chains

-- the cell stands at this place, where the first of the chains has this number
abbrev Stands : (chain : ℕ) → List (List InstanceId) → InstanceId → CellPlace → Type 0
Stands chain chains cell at = (c : ℕ) × ((at.chain ≡ chain + c) × (cell_at chains c at.place ≡ Some cell))

stands_case : (chain : ℕ) (cells : List InstanceId) (chains : List (List InstanceId)) (cell : InstanceId) (at : CellPlace) (o : Option ℕ) (rest : Option CellPlace) → place_in cells cell ≡ o →
    or_else (option_map (λ place. record { chain = chain; place = place }) o) rest ≡ Some at → (rest ≡ Some at → Stands (suc chain) chains cell at) → Stands chain (cells ∷ chains) cell at
stands_case chain cells chains cell at None rest found is later = let there = later is in (suc there.0, (let e = there.1.0 in omega arith, there.1.1))
stands_case chain cells chains cell at (Some p) rest found is later =
    let here : CellPlace = record { chain = chain; place = p } in
    let same : here ≡ at = same_Some here at is in
    (0, (let e : chain ≡ at.chain = ap (λ (a : CellPlace). a.chain) same in omega arith, place_found cells cell at.place (found ∙ ap (λ (a : CellPlace). Some a.place) same)))

place_stands : (chain : ℕ) (chains : List (List InstanceId)) (cell : InstanceId) (at : CellPlace) → place_from chain chains cell ≡ Some at → Stands chain chains cell at
unfolding place_from
place_stands chain [] cell at is = absurd cc
place_stands chain (cells ∷ chains) cell at is = stands_case chain cells chains cell at (place_in cells cell) (place_from (suc chain) chains cell) refl is (λ later. place_stands (suc chain) chains cell at later)

nowhere_case : (chain : ℕ) (cells : List InstanceId) (chains : List (List InstanceId)) (cell : InstanceId) (o : Option ℕ) (rest : Option CellPlace) (c place : ℕ) → place_in cells cell ≡ o →
    or_else (option_map (λ place. record { chain = chain; place = place }) o) rest ≡ None → (rest ≡ None → (d : ℕ) → cell_at chains d place ≡ Some cell → ⊥) → cell_at (cells ∷ chains) c place ≡ Some cell → ⊥
nowhere_case chain cells chains cell (Some p) rest c place found is later stands = cc
nowhere_case chain cells chains cell None rest zero place found is later stands = place_missed cells cell place found stands
nowhere_case chain cells chains cell None rest (suc c) place found is later stands = later is c stands

place_nowhere : (chain : ℕ) (chains : List (List InstanceId)) (cell : InstanceId) (c place : ℕ) → place_from chain chains cell ≡ None → cell_at chains c place ≡ Some cell → ⊥
unfolding place_from
place_nowhere chain [] cell c place is stands = cc
place_nowhere chain (cells ∷ chains) cell c place is stands =
    nowhere_case chain cells chains cell (place_in cells cell) (place_from (suc chain) chains cell) c place refl is (λ later d there. place_nowhere (suc chain) chains cell d place later there) stands

-- ---- load equations

found_case : (chains : List (List InstanceId)) (rows : LoadRows) (cell : InstanceId) (c k : ℕ) (o : Option CellPlace) → StandApart chains → place_from 0 chains cell ≡ o → cell_at chains c k ≡ Some cell →
    option_map (λ at. row_of rows at.chain at.place) o ≡ Some (row_of rows c k)
found_case chains rows cell c k None apart is stands = absurd (place_nowhere 0 chains cell c k is stands)
found_case chains rows cell c k (Some at) apart is stands =
    let there = place_stands 0 chains cell at is in
    let same = apart there.0 at.place c k cell there.1.1 stands in
    let chain : at.chain ≡ c = (let e = there.1.0 in let f = same.0 in omega arith) in
    λ i. Some (row_of rows (chain i) (same.1 i))

-- a cell at a place has that place's load equation
pub row_found : (chains : List (List InstanceId)) (rows : LoadRows) (cell : InstanceId) (c k : ℕ) → StandApart chains → cell_at chains c k ≡ Some cell → cell_row chains rows cell ≡ Some (row_of rows c k)
row_found chains rows cell c k apart stands = found_case chains rows cell c k (place_from 0 chains cell) apart refl stands

none_case : (chains : List (List InstanceId)) (rows : LoadRows) (cell : InstanceId) (o : Option CellPlace) → place_from 0 chains cell ≡ o → ((c k : ℕ) → cell_at chains c k ≡ Some cell → ⊥) → option_map (λ at. row_of rows at.chain at.place) o ≡ None
none_case chains rows cell None is nowhere = refl
none_case chains rows cell (Some at) is nowhere = let there = place_stands 0 chains cell at is in absurd (nowhere there.0 at.place there.1.1)

-- a cell that stands nowhere has none
pub row_nowhere : (chains : List (List InstanceId)) (rows : LoadRows) (cell : InstanceId) → ((c k : ℕ) → cell_at chains c k ≡ Some cell → ⊥) → cell_row chains rows cell ≡ None
row_nowhere chains rows cell nowhere = none_case chains rows cell (place_from 0 chains cell) refl nowhere

wide_case : (chains : List (List InstanceId)) (rows : LoadRows) (cell : InstanceId) (row : List Bool) (o : Option CellPlace) → AreRows chains rows → place_from 0 chains cell ≡ o → option_map (λ at. row_of rows at.chain at.place) o ≡ Some row → length row ≡ rows.columns
wide_case chains rows cell row None are is found = absurd cc
wide_case chains rows cell row (Some at) are is found =
    let there = place_stands 0 chains cell at is in
    let chain : at.chain ≡ there.0 = (let e = there.1.0 in omega arith) in
    let same : row_of rows at.chain at.place ≡ row = same_Some (row_of rows at.chain at.place) row found in
    ap length (sym same) ∙ ap (λ (c : ℕ). length (row_of rows c at.place)) chain ∙ are.wide there.0 at.place cell there.1.1

-- each load equation has a bit for each column
pub row_wide : (chains : List (List InstanceId)) (rows : LoadRows) (cell : InstanceId) (row : List Bool) → AreRows chains rows → cell_row chains rows cell ≡ Some row → length row ≡ rows.columns
row_wide chains rows cell row are found = wide_case chains rows cell row (place_from 0 chains cell) are refl found

-- ---- packed rows

-- words with the bits of a row are packed
pub row_packed : (n : ℕ) (row : List Bool) (words : List ℕ) → length words ≡ words_for n → ((column : ℕ) → packed_bit words column ≡ bit_at row column) → length row ≡ n → IsPacked n words
row_packed n row words size same width = record { size = size; clear = λ column past. same column ∙ get_or_past row column false (omega arith) }

-- and stand for it
pub row_bits : (n : ℕ) (row : List Bool) (words : List ℕ) → length words ≡ words_for n → ((column : ℕ) → packed_bit words column ≡ bit_at row column) → length row ≡ n → row ≡ bits_of n words
row_bits n row words size same width =
    let packed = row_packed n row words size same width in
    ext_get_or false row (bits_of n words) (width ∙ sym (length-bits_of n words)) (λ k less. sym (same k) ∙ sym (bits-at words n k packed.clear))
