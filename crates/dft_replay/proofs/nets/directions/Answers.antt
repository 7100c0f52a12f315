-- One port more.
use Rattle.dft_replay.specs.Vectors.{dirs_of}
use Rattle.dft_replay.proofs.FitLemmas.{dirs_step}
use Rattle.dft_replay.proofs.nets.directions.Goals as goal

pub loop-port-preserved : goal.loop-port-preserved
loop-port-preserved c = dirs_step c.args.ports.now c.loop-port.port-index c.port-item.result c.loop-port.dirs.items c.add_bits.new.dirs.items (dirs_of c.args.ports.now) c.as_slice.result.now c.loop-port-test.true c.port-item.is c.as_slice.ensures c.in_ok-add_bits.ensures c.loop-port.invariant
