use Rattle.std.proofs.Common.{drop}
use Rattle.dft_verilog.proofs.SaidPartLemmas.{PortsToAdd}
use Rattle.dft_verilog.proofs.module_nets.add_ports.Given as goal

abbrev pub invariant-loop-port : goal.invariant-loop-port
invariant-loop-port l = PortsToAdd l.names l.ports (drop l.port-index l.ports) l.port-index l.initial.made l.made
