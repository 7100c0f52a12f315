-- What is looked up once, before vectors are made.
use Rattle.std.specs.Prelude.{ℕ, ◌≡◌, ◌<◌, List, length, map, Option}
use Rattle.std.specs.List.{All}
use Rattle.dft_netlist.specs.declared.ids.NetId.{NetId}
use Rattle.dft_netlist.specs.Netlist.{Netlist}
use Rattle.dft_netlist.specs.Connections.{input_net}
use Rattle.dft_config.specs.Config.{Config}
use Rattle.dft_expect.specs.Captures.{config_ports, output_bits}
use Rattle.dft_vectors.specs.declared.own.OwnInput.{OwnInput}
use Rattle.dft_vectors.specs.declared.own.OwnPorts.{OwnPorts}
use Rattle.dft_vectors.specs.Signals.{input_bits}
use Rattle.dft_vectors.specs.OwnPorts.{inputs_by, pulsing_vector}

-- the nets of names
abbrev pub nets_named : Netlist → List (List ℕ) → List (Option NetId)
nets_named n names = map (input_net n) names

-- what a bit of an input port is for
abbrev pub own_input : Netlist → Config → NetId → OwnInput
own_input n config net = record { net = net; is_clock = (config_ports n config).is_clock net.0; is_reset = (config_ports n config).is_reset net.0 }

-- what the ports of the design are for
pub record AreOwn (n : Netlist) (config : Config) (own : OwnPorts) : Type 0 where
  pub clocks : own.clocks.items ≡ nets_named n config.domains
  pub inputs : own.inputs.items ≡ map (own_input n config) (input_bits n.ports)
  pub pulsing : own.pulsing.items ≡ inputs_by n (pulsing_vector n config)
  pub outputs : own.outputs ≡ length (output_bits n.ports)
  pub nets : own.nets ≡ length n.nets
  pub live : All (λ net. net.0 < own.nets) (input_bits n.ports)
