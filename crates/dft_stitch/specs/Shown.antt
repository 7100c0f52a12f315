-- What `Chains` show, and what holds of them.
use Rattle.std.specs.Prelude.{ℕ, ◌≡◌, ◌≤◌, List, length, Option, None, Some, slice_index_or}
use Rattle.dft_netlist.specs.declared.ids.InstanceId.{InstanceId}
use Rattle.dft_stitch.specs.declared.chains.Chains.TheInside.{Inside}
use Rattle.dft_stitch.specs.declared.places.CellPlace.{CellPlace}
use Rattle.dft_stitch.specs.Plans.{Plan, cell_at}

abbrev pub plan_in : Inside → Plan
plan_in c = record { chains = c.chains.items; heads = c.heads.items; lockups = c.lockups.items; cycles = c.cycles }

-- the table tells where each cell stands, and misses none
pub record Knows (chains : List (List InstanceId)) (places : List (Option CellPlace)) : Type 0 where
  pub says : (i : ℕ) (p : CellPlace) → slice_index_or places i None ≡ Some p → cell_at chains p.chain p.place ≡ Some (record { 0 = i })
  pub misses : (i chain place : ℕ) → slice_index_or places i None ≡ None → cell_at chains chain place ≡ Some (record { 0 = i }) → ⊥

pub record AreChains (c : Inside) : Type 0 where
  pub few : length c.chains.items ≤ 1024
  pub places : Knows c.chains.items c.places.items
