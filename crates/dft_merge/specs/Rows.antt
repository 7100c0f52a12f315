-- The load equations of cells: where a cell stands in its chains, and which variables of the channels it sums after a load (Rajski and others, 2004).
use Rattle.std.specs.Prelude.{ℕ, suc, ◌≡◌, ◌==◌, Bool, List, [], ◌∷◌, position, Option, None, Some, option_map}
use Rattle.dft_netlist.specs.declared.ids.InstanceId.{InstanceId}
use Rattle.dft_stitch.specs.declared.places.CellPlace.{CellPlace}
use Rattle.dft_stitch.specs.Plans.{cell_at}
use Rattle.dft_equations.specs.LoadRows.{LoadRows, row_of}

-- for each cell the variables that it sums, as a set of columns; a cell that is not scanned has none
abbrev pub CellRows : Type 0
CellRows = InstanceId → Option (List Bool)

-- the first of two
abbrev pub or_else : {T : Type 0} → Option T → Option T → Option T
or_else None other = other
or_else (Some x) other = Some x

-- the place of a cell in a chain
abbrev pub place_in : List InstanceId → InstanceId → Option ℕ
place_in cells cell = position (λ other. other.0 == cell.0) cells

-- where a cell stands, in the chains from this number on
unfoldable pub place_from : (chain : ℕ) → List (List InstanceId) → InstanceId → Option CellPlace
place_from chain [] cell = None
place_from chain (cells ∷ chains) cell = or_else (option_map (λ place. record { chain = chain; place = place }) (place_in cells cell)) (place_from (suc chain) chains cell)

-- the load equation of a cell, by the chains and the load equations of their places
abbrev pub cell_row : List (List InstanceId) → LoadRows → CellRows
cell_row chains rows cell = option_map (λ at. row_of rows at.chain at.place) (place_from 0 chains cell)

-- no cell stands at two places
abbrev pub StandApart : List (List InstanceId) → Type 0
StandApart chains =
    (chain place other after : ℕ) (cell : InstanceId) → cell_at chains chain place ≡ Some cell → cell_at chains other after ≡ Some cell → (chain ≡ other) × (place ≡ after)
