-- The table of places, as it is filled.
use Rattle.std.specs.Prelude.{ℕ, ◌≡◌, ◌<◌, ◌⊎◌, List, length, Option, None, Some, slice_get, slice_index_or}
use Rattle.std.specs.List.{All}
use Rattle.dft_netlist.specs.declared.ids.InstanceId.{InstanceId}
use Rattle.dft_stitch.specs.declared.places.CellPlace.{CellPlace}

-- each of these cells is one of the first `count` instances
abbrev pub AreBelow : (count : ℕ) → List InstanceId → Type 0
AreBelow count cells = All (λ cell. cell.0 < count) cells

-- the first so many cells of a chain are noted, and all else is as before
pub record Noted (chain : ℕ) (cells : List InstanceId) (done : ℕ) (old new : List (Option CellPlace)) : Type 0 where
  pub count : length new ≡ length old
  -- what is noted is a place of the chain, or was noted before
  pub says : (i : ℕ) (p : CellPlace) → slice_index_or new i None ≡ Some p → (slice_index_or old i None ≡ Some p) ⊎ ((p.chain ≡ chain) × (slice_get cells p.place ≡ Some (record { 0 = i })))
  -- what is not noted was not before, and is none of these cells
  pub misses : (i : ℕ) → slice_index_or new i None ≡ None → (slice_index_or old i None ≡ None) × ((place : ℕ) → place < done → slice_get cells place ≡ Some (record { 0 = i }) → ⊥)
