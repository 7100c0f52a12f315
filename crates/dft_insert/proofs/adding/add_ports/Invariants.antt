use Rattle.std.proofs.Common.{drop}
use Rattle.dft_insert.proofs.AddedPorts.{Adds}
use Rattle.dft_insert.proofs.adding.add_ports.Given as goal

abbrev pub invariant-loop-port : goal.invariant-loop-port
invariant-loop-port l = Adds l.design l.fn.builder l.builder l.ports (drop l.port-index l.ports)
