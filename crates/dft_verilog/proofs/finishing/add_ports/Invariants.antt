use Rattle.std.proofs.Common.{drop}
use Rattle.dft_verilog.proofs.GrowLemmas.{PortsAhead}
use Rattle.dft_verilog.proofs.finishing.add_ports.Given as goal

abbrev pub invariant-loop-port : goal.invariant-loop-port
invariant-loop-port l = PortsAhead l.ports (drop l.port-index l.ports) l.initial.builder l.builder
