use Rattle.dft_netlist.proofs.NotesLemmas.{kept_more, ports_step}
use Rattle.dft_netlist.proofs.drivers.note_ports.Goals as goal

pub loop-port-preserved : goal.loop-port-preserved
loop-port-preserved c =
    kept_more _ _ _ _ _ _ _ c.loop-port.invariant
    (ports_step c.args.ports.now c.loop-port.port-index c.port-item.result c.loop-port-test.true c.port-item.is)
    c.note_port.ensures
