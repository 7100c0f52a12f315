-- The net at the output of an instance.
use Rattle.std.proofs.Common.{◌≡◌, ℕ, Bool, true, false, cond, List, ◌∷◌, find, Option, None, Some, option_map, option_and_then, refl, []}
use Rattle.dft_netlist.specs.declared.ids.InstanceId.{InstanceId}
use Rattle.dft_cells.specs.declared.kind.Role.{Role}
use Rattle.dft_cells.specs.declared.kind.Role.TheVariants.{Output}
use Rattle.dft_netlist.specs.declared.instance.Signal.{Signal}
use Rattle.dft_netlist.specs.declared.instance.Signal.TheVariants as signal
use Rattle.dft_netlist.specs.Netlist.{Netlist}
use Rattle.dft_netlist.specs.Connections.{joined_to, signal_of, pin_of, same_role}
use Rattle.dft_netlist.specs.Drivers.{Connection, Source, pins_of, source_of}
use Rattle.dft_scan_frame.specs.Pins.{net_of, own_output}

-- ---- outputs

-- the net that a pin is joined to
abbrev pub net_at : Signal → Option ℕ
net_at (signal.Net net) = Some net.0
net_at (signal.Constant bit) = None
net_at signal.Unconnected = None

same_net : (i pin : ℕ) (s : Signal) → net_at s ≡ net_of (source_of i pin s)
same_net i pin (signal.Net net) = refl
same_net i pin (signal.Constant bit) = refl
same_net i pin signal.Unconnected = refl

pin_or : (t : Bool) (i : ℕ) (c : Connection) (rest : Option Connection) (more : Option Source) → option_and_then net_at (option_map joined_to rest) ≡ option_and_then net_of more →
    option_and_then net_at (option_map joined_to (cond t (Some c) rest)) ≡ option_and_then net_of (cond t (Some (source_of i c.pin c.to)) more)
pin_or true i c rest more e = same_net i c.pin c.to
pin_or false i c rest more e = e

pin_net : (r : Role) (i : ℕ) (pins : List Connection) → option_and_then net_at (signal_of r pins) ≡ option_and_then net_of (pin_of r i pins)
pin_net r i [] = refl
pin_net r i (c ∷ pins) = pin_or (same_role r c.role) i c (find (λ x. same_role r x.role) pins) (pin_of r i pins) (pin_net r i pins)

-- the net of an instance's output, by what its pin is joined to
pub own_output_is : (n : Netlist) (cell : InstanceId) → option_and_then net_at (signal_of Output (pins_of n cell.0)) ≡ own_output n cell
own_output_is n cell = pin_net Output cell.0 (pins_of n cell.0)
