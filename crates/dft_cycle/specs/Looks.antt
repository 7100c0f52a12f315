-- Looks: nets whose values are asked for, and what they are settled from.
use Rattle.std.specs.Prelude.{ℕ, Bool, true, ◌≡◌, ◌<◌, ◌≤◌, List, All, length, slice_index_or}
use Rattle.std.specs.Vec.{vec_capacity}
use Rattle.dft_netlist.specs.Orders.{Has, numbers_of}
use Rattle.dft_logic.specs.Circuit.{Circuit, flag_at}
use Rattle.dft_netlist.specs.declared.ids.NetId.{NetId}
use Rattle.dft_cycle.specs.declared.looks.Look.{Look}
use Rattle.dft_cycle.specs.declared.looking.Looks.{Looks}
use Rattle.dft_cycle.specs.Plans.{IsNeedList}
use Rattle.dft_cycle.specs.Steps.{IsStep, step_nets}

-- the look's steps have its nets and all that they are settled from
pub record IsListed (x : Circuit) (look : Look) : Type 0 where
  pub marked : List Bool
  pub steps : All (IsStep x) look.steps.items
  pub list : IsNeedList x marked (step_nets look.steps.items)
  pub all : (k : ℕ) → k < length x.ops → Has (numbers_of look.nets.items) k → flag_at marked k ≡ true

pub record IsLook (x : Circuit) (look : Look) : Type 0 where
  pub steps : length x.ops ≤ vec_capacity look.steps
  pub room : length x.ops ≤ vec_capacity look.nets
  pub listed : look.made ≡ true → IsListed x look

-- the look at this place is at these nets
pub record IsAt (looks : List Look) (place : ℕ) (nets : List NetId) : Type 0 where
  pub live : place < length looks
  pub nets_are : (d : Look) → (slice_index_or looks place d).nets.items ≡ nets

-- all looks
pub record AreLooks (x : Circuit) (l : Looks) : Type 0 where
  pub looks : All (IsLook x) l.looks.items
  pub list : length l.list.items ≡ length x.ops
  pub some : 0 < length l.looks.items
