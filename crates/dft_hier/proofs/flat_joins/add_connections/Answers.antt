use Rattle.dft_hier.proofs.JoinLemmas.{port_here, port_more, ports_over}
use Rattle.dft_hier.proofs.flat_joins.add_connections.Goals as goal

pub add_connection-requires-clause-fits : goal.add_connection-requires-clause-fits
add_connection-requires-clause-fits c = port_here c.loop-port.builder _ c.args.outside c.args.within c.args.connections.now c.args.ports.now c.loop-port.port-index c.port-item.result c.loop-port-test.true c.port-item.is c.loop-port.invariant

pub loop-port-preserved : goal.loop-port-preserved
loop-port-preserved c = port_more c.loop-port.builder c.add_connection.new.builder _ c.args.outside c.args.within c.args.connections.now c.args.ports.now c.loop-port.port-index c.port-item.result c.loop-port-test.true c.port-item.is c.in_ok-add_connection.ensures c.loop-port.invariant

pub returns : goal.returns
returns c = ports_over c.loop-port.builder _ c.args.outside c.args.within c.args.connections.now c.args.ports.now c.loop-port.port-index c.loop-port-test.false c.loop-port.invariant
