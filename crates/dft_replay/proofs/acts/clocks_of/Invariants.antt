use Rattle.std.proofs.Common.{◌≡◌}
use Rattle.dft_replay.specs.Vectors.{clocks_of}
use Rattle.dft_replay.proofs.acts.clocks_of.Given as goal

abbrev pub invariant-loop-signal : goal.invariant-loop-signal
invariant-loop-signal l = l.clocks.items ≡ clocks_of l.signal l.vectors
