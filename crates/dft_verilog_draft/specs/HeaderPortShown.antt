-- What a `HeaderPort` shows.
use Rattle.dft_netlist_text.specs.Modules as spec
use Rattle.dft_verilog_draft.specs.declared.header_port.HeaderPort.TheInside.{Inside}

abbrev pub header_port_of : Inside → spec.HeaderPort
header_port_of p = record { name = p.name; declared = p.declared }
