-- The places of nets in a circuit's order, and those at which a marked net may stand.
use Rattle.std.specs.Prelude.{ℕ, Bool, true, ◌≡◌, ◌<◌, ◌/◌, ◌||◌, nat_le, List, length, slice_index_or}
use Rattle.dft_base.specs.Packed.{packed_bit}
use Rattle.dft_netlist.specs.declared.ids.NetId.{NetId}
use Rattle.dft_logic.specs.Circuit.{Circuit, flag_at}
use Rattle.dft_sweep.specs.declared.marks.Marks.{Marks}

-- the place of a net in the order, by net
abbrev pub place_at : (places : List ℕ) → (net : ℕ) → ℕ
place_at places net = slice_index_or places net 0

-- the net at a place of the order
abbrev pub net_at : (order : List NetId) → (place : ℕ) → NetId
net_at order place = slice_index_or order place (record { 0 = 0 })

-- each net of the order is told its place
abbrev pub ArePlaces : Circuit → (places : List ℕ) → Type 0
ArePlaces x places = (j : ℕ) → j < length x.order → place_at places (net_at x.order j).0 ≡ j

-- whether a marked net may stand at a place, by the bits of words: past the last word one may
abbrev pub is_busy : (busy : List ℕ) → (place : ℕ) → Bool
is_busy busy place = nat_le (length busy) (place / 64) || packed_bit busy place

-- at the place of each marked net one may
abbrev pub AreBusy : (places : List ℕ) → Marks → Type 0
AreBusy places m = (k : ℕ) → flag_at m.marked.items k ≡ true → is_busy m.busy.items (place_at places k) ≡ true
