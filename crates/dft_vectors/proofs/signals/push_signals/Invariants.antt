-- The signals so far, and the rest.
use Rattle.std.proofs.Common.{◌≡◌, ◌++◌, map, drop}
use Rattle.dft_vectors.specs.Signals.{signal_of}
use Rattle.dft_vectors.proofs.signals.push_signals.Given as goal

abbrev pub invariant-loop-net : goal.invariant-loop-net
invariant-loop-net l = l.signals.items ++ map (signal_of l.design l.dir) (drop l.net-index l.nets) ≡ l.fn.signals.items ++ map (signal_of l.design l.dir) l.nets
