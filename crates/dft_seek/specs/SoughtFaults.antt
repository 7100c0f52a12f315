-- The faults for which test cubes are sought.
use Rattle.std.specs.Prelude.{ℕ, Bool, false, not, List, filter}
use Rattle.std.specs.List.{list_any}
use Rattle.dft_base.specs.Lexing.{Text}
use Rattle.dft_netlist.specs.declared.ids.NetId.{NetId}
use Rattle.dft_behavior.specs.declared.root.NetRoot.{NetRoot}
use Rattle.dft_netlist.specs.Netlist.{Netlist}
use Rattle.dft_netlist.specs.Connections.{input_net}
use Rattle.dft_netlist.specs.Drivers.{Net}
use Rattle.dft_behavior.specs.RootTables.{root_among}
use Rattle.dft_behavior.specs.Traces.{Root, Port, Constant, Other, root_of}
use Rattle.dft_config.specs.Config.{Config}
use Rattle.dft_rules.specs.ConfigPorts.{config_ports}
use Rattle.dft_rules.specs.Rules.{is_net}
use Rattle.dft_faults.specs.declared.fault.Fault.{Fault}
use Rattle.dft_faults.specs.Faults.{faults, is_clock_in}

-- one of these names stands for the net, as the bit of an input port
abbrev pub is_named : Netlist → (names : List Text) → (net : ℕ) → Bool
is_named n names net = list_any (λ name. is_net net (input_net n name)) names

-- a root is one of these ports
abbrev pub is_root_of : (is_port : ℕ → Bool) → Root → Bool
is_root_of is_port (Port net) = is_port net
is_root_of is_port (Constant bit) = false
is_root_of is_port Other = false

-- whether a fault's net traces to none of these ports
abbrev pub is_untraced : Netlist → (is_port : ℕ → Bool) → Fault → Bool
is_untraced n is_port f = not (is_root_of is_port (root_of n (Net f.net.0)))

-- The design's faults whose clock ports are the configured domains, but for those of nets that trace to a configured reset.
abbrev pub seek_faults : Netlist → Config → List Fault
seek_faults n config = filter (is_untraced n (config_ports n config).is_reset) (faults n (config_ports n config).is_clock)

-- ---- by the roots of the nets

-- whether a net traces to one of these ports
abbrev pub traces_port : List NetRoot → List NetId → (net : ℕ) → Bool
traces_port roots ports net = is_root_of (is_clock_in ports) (root_among roots (Net net))

-- whether a fault's net traces to none
abbrev pub is_left : List NetRoot → List NetId → Fault → Bool
is_left roots ports f = not (traces_port roots ports f.net.0)
