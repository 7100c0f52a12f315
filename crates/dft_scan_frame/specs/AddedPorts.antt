-- Ports of one bit that are added to a design.
use Rattle.std.specs.Prelude.{ℕ, suc, List, ◌∷◌, ◌++◌, map, None, []}
use Rattle.std.specs.List.{range_with_len}
use Rattle.std.specs.Fmt.{decimal}
use Rattle.dft_base.specs.Lexing.{Text}
use Rattle.dft_netlist.specs.declared.port.Port.{Port}
use Rattle.dft_base.specs.declared.dir.Dir.{Dir}
use Rattle.dft_base.specs.declared.dir.Dir.TheVariants.{Input, Output}
use Rattle.dft_config.specs.Config.{Config}

-- a port of one bit
pub record NewPort : Type 0 where
  pub name : Text
  pub dir : Dir

abbrev pub new_port : Dir → Text → NewPort
new_port dir name = record { name = name; dir = dir }

-- a name with a number behind it, in decimal
abbrev pub numbered : Text → (number : ℕ) → Text
numbered name number = name ++ decimal number

-- ports of one name, numbered from 0 on
abbrev pub numbered_ports : Dir → Text → (count : ℕ) → List NewPort
numbered_ports dir name count = map (λ number. new_port dir (numbered name number)) (range_with_len 0 count)

-- scan_enable, then a scan input for each chain, then a scan output for each chain
abbrev pub plain_ports : Config → List NewPort
plain_ports config =
    new_port Input config.names.scan_enable
    ∷ (numbered_ports Input config.names.scan_in config.chains ++ numbered_ports Output config.names.scan_out config.chains)

abbrev pub port_name : NewPort → Text
port_name port = port.name

-- the ports with their nets, which have the numbers from one on
abbrev pub ports_from : (net : ℕ) → List NewPort → List Port
ports_from net [] = []
ports_from net (port ∷ ports) = record { name = port.name; dir = port.dir; range = None; bits = record { 0 = net } ∷ [] } ∷ ports_from (suc net) ports
