use Rattle.std.proofs.Common.{◌≡◌, ◌++◌, flat_map, drop}
use Rattle.dft_verilog_out.specs.Written.{port_line}
use Rattle.dft_verilog_out.proofs.declarations.add_ports.Given as goal

abbrev pub invariant-loop-port : goal.invariant-loop-port
invariant-loop-port l = l.out.items ++ flat_map port_line (drop l.port-index l.ports) ≡ l.fn.out.items ++ flat_map port_line l.ports
