-- Where an order that is being made stands: what is placed is in order, and the walk goes back from a net by the first nets that are not placed.
use Rattle.std.specs.Prelude.{ℕ, ◌≡◌, ◌<◌, List, [], ◌∷◌, ◌++◌, Some, length, slice_get}
use Rattle.dft_netlist.specs.declared.ids.NetId.{NetId}
use Rattle.dft_netlist.specs.declared.progress.State.{State}
use Rattle.dft_netlist.specs.declared.progress.State.TheVariants.{Walked, Placed}
use Rattle.dft_netlist.specs.Netlist.{Netlist}
use Rattle.dft_netlist.specs.Orders.{Has, IsOrderFrom, AreOnce, numbers_of, reads_of, IsLoopNet}
use Rattle.dft_netlist.specs.Progress.{Stand, first_open, placed_count}

-- the walk, its last net first
abbrev pub back_of : List NetId → List ℕ
back_of [] = []
back_of (net ∷ walk) = back_of walk ++ net.0 ∷ []

-- each net of the walk is the first that the one before it reads and that is not placed; the first is the start
abbrev pub IsChain : Netlist → List State → (start : ℕ) → (back : List ℕ) → Type 0
IsChain n states start [] = Unit {0}
IsChain n states start (net ∷ []) = net ≡ start
IsChain n states start (net ∷ before ∷ walk) = (first_open states (reads_of n before) ≡ Some net) × IsChain n states start (before ∷ walk)

pub record IsUnderWay (n : Netlist) (start : ℕ) (s : Stand) : Type 0 where
  pub count : length s.states ≡ length n.nets
  pub counted : length s.order ≡ placed_count s.states
  pub ordered : IsOrderFrom n [] (numbers_of s.order)
  pub placed : (net : ℕ) → slice_get s.states net ≡ Some Placed → Has (numbers_of s.order) net
  pub in_order : (net : ℕ) → Has (numbers_of s.order) net → slice_get s.states net ≡ Some Placed
  pub walked : (net : ℕ) → slice_get s.states net ≡ Some Walked → Has (back_of s.walk) net
  pub on_walk : (net : ℕ) → Has (back_of s.walk) net → slice_get s.states net ≡ Some Walked
  pub once : AreOnce (back_of s.walk)
  pub chain : IsChain n s.states start (back_of s.walk)
  -- the nets before the start are placed
  pub before : (net : ℕ) → net < start → slice_get s.states net ≡ Some Placed

-- no walk is under way
pub record IsBetween (n : Netlist) (start : ℕ) (s : Stand) : Type 0 where
  pub way : IsUnderWay n start s
  pub no_walk : s.walk ≡ []

-- a net that the walk meets again
pub record MeetsAgain (n : Netlist) (net : ℕ) : Type 0 where
  pub live : net < length n.nets
  pub loop : IsLoopNet n net
