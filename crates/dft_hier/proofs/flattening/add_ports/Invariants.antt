use Rattle.dft_hier.proofs.FlattenLemmas.{PortsLeft}
use Rattle.dft_hier.proofs.flattening.add_ports.Given as goal

abbrev pub invariant-loop-port : goal.invariant-loop-port
invariant-loop-port l = PortsLeft l.ports l.port-index l.initial.builder l.builder
