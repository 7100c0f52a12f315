use Rattle.dft_hier.proofs.FlattenLemmas.{ports_next}
use Rattle.dft_hier.proofs.flattening.add_ports.Goals as goal

pub loop-port-preserved : goal.loop-port-preserved
loop-port-preserved c = ports_next c.args.ports.now c.loop-port.port-index c.port-item.result c.in_ok-copy.field-0 c.in_ok-port.field-0 c.args.builder.now c.loop-port.builder c.port.new.self c.loop-port-test.true c.port-item.is c.in_ok-copy.ensures c.in_ok-port.ensures.ok c.in_ok-port.ensures.refused c.loop-port.invariant
