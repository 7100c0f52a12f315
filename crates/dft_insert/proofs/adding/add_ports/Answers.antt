use Rattle.std.proofs.Common.{◌+◌, drop}
use Rattle.dft_insert.proofs.AddedPorts.{adds_on}
use Rattle.dft_insert.proofs.MadeParts.{next_item}
use Rattle.dft_insert.proofs.adding.add_ports.Goals as goal

pub loop-port-preserved : goal.loop-port-preserved
loop-port-preserved c =
    let k = c.loop-port.port-index in
    let xs = c.args.ports.now in
    adds_on c.args.design.now c.args.builder.now c.loop-port.builder c.add_port.new.builder xs (drop k xs) (drop (k + 1) xs) c.port-item.result (next_item xs k c.port-item.result c.port-item.result c.loop-port-test.true c.port-item.is)
    c.loop-port.invariant c.in_ok-add_port.ensures.accepted c.in_ok-add_port.ensures.added
