-- Pins of scan cells, and the nets at the outputs of instances and at the ports of domains.
use Rattle.std.specs.Prelude.{ℕ, zero, suc, Bool, List, [], ◌∷◌, Option, None, Some, option_map, option_and_then, slice_index_or, if◌then◌else◌}
use Rattle.dft_cells.specs.declared.kind.Role.{Role}
use Rattle.dft_cells.specs.declared.kind.Role.TheVariants.{ScanIn, ScanEnable, Output}
use Rattle.dft_netlist.specs.declared.ids.InstanceId.{InstanceId}
use Rattle.dft_netlist.specs.Netlist.{Netlist}
use Rattle.dft_netlist.specs.Connections.{input_net, pin_of}
use Rattle.dft_netlist.specs.Drivers.{Source, Net, Tied, Loose, pins_of}
use Rattle.dft_config.specs.Config.{Config}
use Rattle.dft_scan_frame.specs.Moves.{Gap, moved}

-- the number of the first item that passes a test, where the items are numbered from a number on
abbrev pub number_of : {T : Type 0} → (T → Bool) → (first : ℕ) → List T → Option ℕ
number_of test first [] = None
number_of test first (x ∷ xs) = if test x then Some first else number_of test (suc first) xs

-- how many pins of the flip-flop a pin of the scan cell stands for
abbrev pub pins_taken : Role → ℕ
pins_taken ScanIn = 0
pins_taken ScanEnable = 0
pins_taken _ = 1

-- ---- nets of the design

abbrev pub net_of : Source → Option ℕ
net_of (Net net) = Some net
net_of (Tied bit) = None
net_of (Loose i pin) = None

-- the net that the output pin of an instance is joined to, in the design
abbrev pub own_output : Netlist → InstanceId → Option ℕ
own_output n cell = option_and_then net_of (pin_of Output cell.0 (pins_of n cell.0))

-- the net of a design, where it is there
abbrev pub moved_or_none : Gap → Option ℕ → ℕ
moved_or_none gap None = zero
moved_or_none gap (Some net) = moved gap net

-- the net of the port of a domain
abbrev pub domain_in : Netlist → Gap → Config → (domain : ℕ) → ℕ
domain_in n gap config domain = moved_or_none gap (option_map (λ net. net.0) (input_net n (slice_index_or config.domains domain [])))
