-- What is planned for a design: its chains, their first cells, its lock-ups and the cycles of a load.
use Rattle.std.specs.Prelude.{ℕ, Bool, false, List, length, map, Option, slice_get, slice_index_or, option_and_then}
use Rattle.dft_netlist.specs.declared.ids.InstanceId.{InstanceId}
use Rattle.dft_stitch.specs.declared.places.LockupPlace.{LockupPlace}

pub record Plan : Type 0 where
  -- the cells of each chain, from the one nearest the scan input on
  pub chains : List (List InstanceId)
  -- whether the first cell of each chain is falling
  pub heads : List Bool
  pub lockups : List LockupPlace
  pub cycles : ℕ

-- the cell at a place of a chain
abbrev pub cell_at : List (List InstanceId) → (chain place : ℕ) → Option InstanceId
cell_at chains chain place = option_and_then (λ cells. slice_get cells place) (slice_get chains chain)

-- whether a chain begins with a falling cell, which takes its bit after the rises of a vector
abbrev pub falling_head : Plan → (chain : ℕ) → Bool
falling_head plan chain = slice_index_or plan.heads chain false

-- the lengths of chains
abbrev pub lengths_of : List (List InstanceId) → List ℕ
lengths_of chains = map length chains
