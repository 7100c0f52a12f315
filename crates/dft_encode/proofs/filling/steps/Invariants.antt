-- The patterns so far.
use Rattle.std.proofs.Common.{◌+◌}
use Rattle.dft_encode.specs.Finding.{HasPatterns}
use Rattle.dft_encode.proofs.filling.steps.Given as goal

abbrev pub invariant-loop-k : goal.invariant-loop-k
invariant-loop-k l = HasPatterns l.finder (l.first + l.k) l.filled l.list
