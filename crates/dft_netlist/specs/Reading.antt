-- Which pins the output of a cell reads at the same moment.
use Rattle.std.specs.Prelude.{ℕ, Bool, false, List, [], ◌∷◌, ◌++◌, if◌then◌else◌}
use Rattle.dft_cells.specs.declared.kind.Kind.{Kind}
use Rattle.dft_cells.specs.declared.kind.Kind.TheVariants as kind
use Rattle.dft_cells.specs.declared.kind.Role.{Role}
use Rattle.dft_netlist.specs.declared.instance.Signal.{Signal}
use Rattle.dft_netlist.specs.declared.instance.Signal.TheVariants as signal
use Rattle.dft_netlist.specs.Drivers.{is_input, is_lockup_input}

-- whether the output of this kind reads a pin of this role: a gate its inputs, a lock-up its data and its clock, another cell nothing
abbrev pub reads_role : Kind → Role → Bool
reads_role (kind.Gate gate) role = is_input role
reads_role (kind.Flop flop) role = false
reads_role kind.Opaque role = false
reads_role kind.Lockup role = is_lockup_input role

abbrev pub net_of_signal : Signal → List ℕ
net_of_signal (signal.Net net) = net.0 ∷ []
net_of_signal (signal.Constant bit) = []
net_of_signal signal.Unconnected = []

-- the net of a pin, if it is read
abbrev pub read_at : Kind → Role → Signal → List ℕ
read_at kind role to = if reads_role kind role then net_of_signal to else []

-- the nets of the pins that the output of a cell reads, in the order of the pins
abbrev pub pins_read : Kind → List Role → List Signal → List ℕ
pins_read kind [] pins = []
pins_read kind (role ∷ roles) [] = []
pins_read kind (role ∷ roles) (to ∷ pins) = read_at kind role to ++ pins_read kind roles pins
