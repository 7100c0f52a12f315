-- The final numbers of a draft's nets: the ports' bits in header order, then the other nets.
use Rattle.std.specs.Prelude.{◌≡◌, ℕ, suc, ◌<◌, ◌==◌, if◌then◌else◌, List, [], ◌∷◌, length, map, position, Option, Some, None, option_map, is_some, slice_get, slice_index_or, slice_set}
use Rattle.std.specs.List.{All}
use Rattle.dft_base.specs.Lexing.{Text}
use Rattle.dft_base.specs.Ranges.{going_up}
use Rattle.dft_netlist.specs.declared.ids.NetId.{NetId}
use Rattle.dft_netlist.specs.declared.instance.Signal.{Signal}
use Rattle.dft_netlist.specs.declared.instance.Signal.TheVariants as signal
use Rattle.dft_netlist_text.specs.Modules.{Draft}
use Rattle.dft_netlist_text.specs.NetlistText.{net_order, final_net}

-- the place of a net among these, if it is one of them
abbrev pub number_among : (nets : List ℕ) → (net : ℕ) → Option NetId
number_among nets net = option_map (λ place. record { 0 = place }) (position (λ other. other == net) nets)

-- the places of the first so many nets
abbrev pub numbers_among : (nets : List ℕ) → (count : ℕ) → List (Option NetId)
numbers_among nets count = map (number_among nets) (going_up 0 count)

-- a net has this number, unless it had one before
abbrev pub with_number : (net number : ℕ) → List (Option NetId) → List (Option NetId)
with_number net number numbers = if is_some (slice_index_or numbers net None) then numbers else slice_set numbers net (Some (record { 0 = number }))

-- these nets have numbers from `next` on
abbrev pub with_numbers : (nets : List ℕ) → (next : ℕ) → List (Option NetId) → List (Option NetId)
with_numbers [] next numbers = numbers
with_numbers (net ∷ nets) next numbers = with_numbers nets (suc next) (with_number net next numbers)

-- the name of a net that has no number yet
abbrev pub name_unless : Option NetId → Text → List Text
name_unless (Some number) word = []
name_unless None word = word ∷ []

-- the names of the nets that have none
abbrev pub without_number : List Text → List (Option NetId) → List Text
without_number (word ∷ words) (Some number ∷ numbers) = without_number words numbers
without_number (word ∷ words) (None ∷ numbers) = word ∷ without_number words numbers
without_number _ _ = []

-- the numbers of all nets, where those that had none get numbers from `next` on
abbrev pub all_numbered : (next : ℕ) → List (Option NetId) → List NetId
all_numbered next [] = []
all_numbered next (Some number ∷ numbers) = number ∷ all_numbered next numbers
all_numbered next (None ∷ numbers) = record { 0 = next } ∷ all_numbered (suc next) numbers

-- these are the final numbers of a draft's nets
pub record AreFinal (d : Draft) (finals : List NetId) : Type 0 where
  pub count : length finals ≡ length d.nets
  pub each : (net : NetId) → net.0 < length d.nets → slice_get finals net.0 ≡ Some (final_net (net_order d) net)
  -- each is below the number of nets in the order
  pub within : All (λ (final : NetId). final.0 < length (net_order d)) finals

-- a net by its number in this list
abbrev pub net_by : List NetId → NetId → NetId
net_by finals net = slice_index_or finals net.0 net

-- a signal by the numbers in this list
abbrev pub signal_by : List NetId → Signal → Signal
signal_by finals (signal.Net net) = signal.Net (net_by finals net)
signal_by finals (signal.Constant bit) = signal.Constant bit
signal_by finals signal.Unconnected = signal.Unconnected
