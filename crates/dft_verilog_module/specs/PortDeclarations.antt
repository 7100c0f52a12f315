-- What the names behind a direction have, in the words of the definitions.
use Rattle.dft_netlist_text.specs.NetlistText as spec
use Rattle.dft_verilog_module.specs.declared.header.PortDeclaration.{PortDeclaration}

abbrev pub port_declaration_as : PortDeclaration → spec.PortDeclaration
port_declaration_as f = record { dir = f.dir; range = f.range }
