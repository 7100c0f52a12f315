-- An order that is being made by walking back.
use Rattle.std.specs.Prelude.{ℕ, ◌+◌, ◌-◌, Bool, true, false, List, [], ◌∷◌, ◌++◌, length, take, Option, None, Some, slice_get, slice_set, option_map, if◌then◌else◌}
use Rattle.dft_netlist.specs.declared.ids.NetId.{NetId}
use Rattle.dft_netlist.specs.declared.progress.State.{State}
use Rattle.dft_netlist.specs.declared.progress.State.TheVariants.{New, Walked, Placed}

-- how far each net is, the order so far, and the walk with its last net last
pub record Stand : Type 0 where
  pub states : List State
  pub order : List NetId
  pub walk : List NetId

abbrev pub is_new : Option State → Bool
is_new (Some New) = true
is_new _ = false

abbrev pub is_walked : Option State → Bool
is_walked (Some Walked) = true
is_walked _ = false

abbrev pub is_placed : Option State → Bool
is_placed (Some Placed) = true
is_placed _ = false

abbrev pub top_of : List NetId → Option NetId
top_of walk = slice_get walk (length walk - 1)

abbrev pub entered : Stand → NetId → Stand
entered s net = record { states = slice_set s.states net.0 Walked; order = s.order; walk = s.walk ++ net ∷ [] }

abbrev pub left : Stand → NetId → Stand
left s net = record { states = slice_set s.states net.0 Placed; order = s.order ++ net ∷ []; walk = take (length s.walk - 1) s.walk }

-- the first of these nets that is not placed
abbrev pub first_open : List State → List ℕ → Option ℕ
first_open states [] = None
first_open states (net ∷ nets) = if is_placed (slice_get states net) then first_open states nets else Some net

-- the number of a net
abbrev pub number_of : Option NetId → Option ℕ
number_of found = option_map (λ net. net.0) found

-- how many nets are placed
abbrev pub placed_count : List State → ℕ
placed_count [] = 0
placed_count (state ∷ states) = (if is_placed (Some state) then 1 else 0) + placed_count states
