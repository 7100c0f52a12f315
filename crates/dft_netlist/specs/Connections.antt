-- What pins of a role are joined to, and the nets that names of input ports stand for.
use Rattle.std.specs.Prelude.{ℕ, [], ◌∷◌, Bool, true, false, List, find, Option, None, Some, option_map, option_and_then, if◌then◌else◌}
use Rattle.dft_base.specs.Lexing.{Text}
use Rattle.dft_cells.specs.declared.kind.Role.{Role}
use Rattle.dft_cells.specs.declared.kind.Role.TheVariants as role
use Rattle.dft_netlist.specs.declared.ids.NetId.{NetId}
use Rattle.dft_netlist.specs.declared.instance.Signal.{Signal}
use Rattle.dft_netlist.specs.Netlist.{Netlist}
use Rattle.dft_netlist.specs.Drivers.{Connection, Driver, Source, source_of, Input, Gate, Joined, Flop, Free, driver}
use Rattle.dft_netlist.specs.Drivers as drivers
use Rattle.dft_netlist.specs.Names.{find_net}

abbrev pub same_role : Role → Role → Bool
same_role role.Input role.Input = true
same_role role.Clock role.Clock = true
same_role role.Din role.Din = true
same_role role.Reset role.Reset = true
same_role role.Preset role.Preset = true
same_role role.ScanIn role.ScanIn = true
same_role role.ScanEnable role.ScanEnable = true
same_role role.Output role.Output = true
same_role role.Inverted role.Inverted = true
same_role _ _ = false

abbrev pub joined_to : Connection → Signal
joined_to c = c.to

-- what the first pin of a role is joined to
abbrev pub signal_of : Role → List Connection → Option Signal
signal_of role pins = option_map joined_to (find (λ c. same_role role c.role) pins)

-- where the first pin of a role takes its bit from
abbrev pub pin_of : Role → (instance : ℕ) → List Connection → Option Source
pin_of r i [] = None
pin_of r i (c ∷ cs) = if same_role r c.role then Some (source_of i c.pin c.to) else pin_of r i cs

-- whether a net with this driver is the bit of an input port
abbrev pub is_input : Driver → Bool
is_input Input = true
is_input (Gate kind inputs) = false
is_input (Joined source) = false
is_input (Flop instance inverted) = false
is_input (drivers.Lockup instance) = false
is_input Free = false

-- the bit of an input port with this name
abbrev pub input_net : Netlist → (name : Text) → Option NetId
input_net n name = option_and_then (λ net. if is_input (driver n net.0) then Some net else None) (find_net n name)
