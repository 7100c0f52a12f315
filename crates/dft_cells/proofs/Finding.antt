-- What a search by name finds.
use Rattle.std.proofs.Common.{ℕ, ◌≡◌, ◌+◌, zero, suc, List, [], ◌∷◌, Bool, true, false, Option, None, Some, MatchOption, cond, slice_get, refl, sym, subst, arith}
use Rattle.std.specs.Str.{bytes_eq}
use Rattle.std.proofs.lemmas.Slice.Eq.{bytes_eq-Decides}
use Rattle.dft_cells.specs.declared.cell.CellId.{CellId}
use Rattle.dft_cells.specs.declared.cell.Cell.{Cell}
use Rattle.dft_cells.specs.Cells.{find_from, NoneNamed, IsNamed}

-- the cell with this many others before it has this name
abbrev NamedFrom : ℕ → List Cell → List ℕ → CellId → Type 0
NamedFrom from cells name id = (place : ℕ) × (id.0 ≡ from + place) × IsNamed cells name (record { 0 = place })

abbrev Found : ℕ → List Cell → List ℕ → Option CellId → Type 0
Found from cells name found = MatchOption found (NoneNamed cells name) (NamedFrom from cells name)

found_later : (from : ℕ) (cell : Cell) (cells : List Cell) (name : List ℕ) (found : Option CellId) → (cell.name ≡ name → ⊥) → Found (from + 1) cells name found → Found from (cell ∷ cells) name found
found_later from cell cells name None not_here h = none
  where
    none : NoneNamed (cell ∷ cells) name
    none zero other at named = not_here (cc)
    none (suc place) other at named = h place other at named
found_later from cell cells name (Some id) not_here h = (suc h.0, omega arith, h.2)

found_here : (same : Bool) (from : ℕ) (cell : Cell) (cells : List Cell) (name : List ℕ) → bytes_eq cell.name name ≡ same → Found (from + 1) cells name (find_from (from + 1) cells name) → Found from (cell ∷ cells) name (cond same (Some (record { 0 = from })) (find_from (from + 1) cells name))
found_here true from cell cells name same h = (0, omega arith, (cell, refl, (bytes_eq-Decides cell.name name).0 same))
found_here false from cell cells name same h = found_later from cell cells name (find_from (from + 1) cells name) (λ e. absurd (let f : bytes_eq cell.name name ≡ true = (bytes_eq-Decides cell.name name).1 e in cc)) h

pub found_from : (from : ℕ) (cells : List Cell) (name : List ℕ) → Found from cells name (find_from from cells name)
found_from from [] name = λ place cell at. absurd (cc)
found_from from (cell ∷ cells) name = found_here (bytes_eq cell.name name) from cell cells name refl (found_from (from + 1) cells name)

same_place : (cells : List Cell) (name : List ℕ) (found : Option CellId) → Found 0 cells name found → MatchOption found (NoneNamed cells name) (IsNamed cells name)
same_place cells name None h = h
same_place cells name (Some id) h =
    let e : id.0 ≡ h.0 = omega arith in
    (h.2.0, subst (λ (place : ℕ). slice_get cells place ≡ Some h.2.0) (sym e) h.2.1, h.2.2)

-- what `find_cell` gives names a cell of that name, and None says that there is none
pub found_named : (cells : List Cell) (name : List ℕ) → MatchOption (find_from 0 cells name) (NoneNamed cells name) (IsNamed cells name)
found_named cells name = same_place cells name (find_from 0 cells name) (found_from 0 cells name)
