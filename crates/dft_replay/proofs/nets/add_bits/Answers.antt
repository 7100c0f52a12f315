-- One bit more.
use Rattle.std.proofs.Common.{◌++◌, map}
use Rattle.dft_replay.proofs.FitLemmas.{bits_step}
use Rattle.dft_replay.proofs.nets.add_bits.Goals as goal

pub loop-bit-preserved : goal.loop-bit-preserved
loop-bit-preserved c = bits_step c.args.dir c.args.bits.now c.loop-bit._bit-index c.loop-bit.dirs.items c.push.new.self.items (c.args.dirs.now.items ++ map (λ net. c.args.dir) c.args.bits.now) c.loop-bit-test.true c.in_ok-push.ensures.items c.loop-bit.invariant
