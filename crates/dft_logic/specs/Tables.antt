-- Tables of lists of numbers: what is listed at each place.
use Rattle.std.specs.Prelude.{ℕ, ◌≡◌, ◌<◌, ◌⊎◌, List, [], ◌∷◌, Option, None, Some, length, slice_index_or}
use Rattle.dft_netlist.specs.declared.ids.NetId.{NetId}
use Rattle.dft_netlist.specs.Orders.{Has}

-- the list at a place, and none past the end
abbrev pub list_at : List (List ℕ) → ℕ → List ℕ
list_at table place = slice_index_or table place []

-- the number was added at these places
pub record IsAdded (old : List (List ℕ)) (places : List ℕ) (number : ℕ) (new : List (List ℕ)) : Type 0 where
  pub size : length new ≡ length old
  pub kept : (k n : ℕ) → Has (list_at old k) n → Has (list_at new k) n
  pub here : (k : ℕ) → k < length old → Has places k → Has (list_at new k) number
  pub only : (k n : ℕ) → Has (list_at new k) n → Has (list_at old k) n ⊎ ((n ≡ number) × Has places k)

-- each of the first numbers is listed at its places, and at no others
pub record IsTable (room count : ℕ) (places : ℕ → List ℕ) (table : List (List ℕ)) : Type 0 where
  pub size : length table ≡ room
  pub each : (k n : ℕ) → n < count → k < room → Has (places n) k → Has (list_at table k) n
  pub only : (k n : ℕ) → Has (list_at table k) n → (n < count) × Has (places n) k

-- a place, if there is one
abbrev pub listed : Option NetId → List ℕ
listed None = []
listed (Some net) = net.0 ∷ []
