-- Where the nets of a design stand in its scanned netlist: the nets of the added ports come between those of its ports and its other nets.
use Rattle.std.specs.Prelude.{ℕ, suc, ◌+◌, nat_lt, List, [], ◌∷◌, length, map, if◌then◌else◌}
use Rattle.dft_netlist.specs.declared.ids.NetId.{NetId}
use Rattle.dft_netlist.specs.declared.instance.Signal.{Signal}
use Rattle.dft_netlist.specs.declared.instance.Signal.TheVariants.{Net, Constant, Unconnected}
use Rattle.dft_netlist.specs.declared.instance.Instance.{Instance}
use Rattle.dft_netlist.specs.declared.instance.Join.{Join}
use Rattle.dft_netlist.specs.Netlist.{Netlist}
use Rattle.dft_netlist.specs.Sound.{bits_of}

-- the number of nets before those of the added ports, and how many these are
pub record Gap : Type 0 where
  pub before : ℕ
  pub width : ℕ

abbrev pub gap_of : Netlist → (added : ℕ) → Gap
gap_of n added = record { before = length (bits_of n.ports); width = added }

-- the number of a net of the design in the scanned netlist
abbrev pub moved : Gap → (net : ℕ) → ℕ
moved gap net = if nat_lt net gap.before then net else net + gap.width

abbrev pub moved_net : Gap → NetId → NetId
moved_net gap net = record { 0 = moved gap net.0 }

abbrev pub moved_signal : Gap → Signal → Signal
moved_signal gap (Net net) = Net (moved_net gap net)
moved_signal gap (Constant bit) = Constant bit
moved_signal gap Unconnected = Unconnected

abbrev pub moved_instance : Gap → Instance → Instance
moved_instance gap instance = record instance { pins = map (moved_signal gap) instance.pins }

abbrev pub moved_join : Gap → Join → Join
moved_join gap join = record { target = moved_net gap join.target; source = moved_signal gap join.source }

-- a pin that is joined to a net of this number
abbrev pub at_net : ℕ → Signal
at_net net = Net (record { 0 = net })

-- each item with its number, from a number on
abbrev pub map_from : {A B : Type 0} → (ℕ → A → B) → (number : ℕ) → List A → List B
map_from f number [] = []
map_from f number (x ∷ xs) = f number x ∷ map_from f (suc number) xs
