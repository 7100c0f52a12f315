-- The bits that lists give cells and ports: of two for one the first one counts.
use Rattle.std.specs.Prelude.{ℕ, zero, suc, Bool, false, ◌≡◌, ◌<◌, ◌==◌, List, [], ◌∷◌, length, Option, None, Some, if◌then◌else◌}
use Rattle.dft_base.specs.declared.tri.Tri.{Tri}
use Rattle.dft_base.specs.Tri.{known}
use Rattle.dft_netlist.specs.declared.ids.NetId.{NetId}
use Rattle.dft_logic.specs.Values.{value_at}

-- the bit that a list gives a net, where the nets stand in this order
abbrev pub bit_of_net : List NetId → List Bool → (net : ℕ) → Option Bool
bit_of_net [] bits net = None
bit_of_net (port ∷ ports) [] net = None
bit_of_net (port ∷ ports) (bit ∷ bits) net = if port.0 == net then Some bit else bit_of_net ports bits net

-- the value of a bit, or another one where there is none
abbrev pub value_or : Option Bool → Tri → Tri
value_or None other = other
value_or (Some bit) other = known bit

-- a place has one value, if it is there, and all others theirs
pub record IsPut (old new : List Tri) (place : ℕ) (value : Tri) : Type 0 where
  pub size : length new ≡ length old
  pub here : place < length old → value_at new place ≡ value
  pub other : (k : ℕ) → (k ≡ place → ⊥) → value_at new k ≡ value_at old k

-- the number stands at the place
abbrev pub is_at : List ℕ → (place : ℕ) → (k : ℕ) → Bool
is_at [] place k = false
is_at (x ∷ xs) zero k = x == k
is_at (x ∷ xs) (suc place) k = is_at xs place k
