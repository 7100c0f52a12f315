-- The ports of a configuration in a design.
use Rattle.std.specs.List.{list_any}
use Rattle.dft_netlist.specs.Netlist.{Netlist}
use Rattle.dft_netlist.specs.Connections.{input_net}
use Rattle.dft_behavior.specs.Logic.{Ports}
use Rattle.dft_config.specs.Config.{Config}
use Rattle.dft_rules.specs.Rules.{is_net}

-- the clock ports and the reset ports of a configuration
abbrev pub config_ports : Netlist → Config → Ports
config_ports n config = record {
  is_clock = λ net. list_any (λ name. is_net net (input_net n name)) config.domains;
  is_reset = λ net. list_any (λ name. is_net net (input_net n name)) config.resets;
}
