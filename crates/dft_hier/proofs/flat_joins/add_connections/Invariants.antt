use Rattle.dft_hier.specs.Flat.{connection_joins}
use Rattle.dft_hier.specs.Moving.{with_joins}
use Rattle.dft_hier.proofs.JoinLemmas.{PortsJoined}
use Rattle.dft_hier.proofs.flat_joins.add_connections.Given as goal

abbrev pub invariant-loop-port : goal.invariant-loop-port
invariant-loop-port l = PortsJoined l.builder (with_joins l.initial.builder (connection_joins l.outside l.within l.connections l.ports)) l.outside l.within l.connections l.ports l.port-index
