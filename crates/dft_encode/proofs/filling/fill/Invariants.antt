-- The patterns so far.
use Rattle.std.proofs.Common.{◌≡◌, ◌≤◌, ◌-◌}
use Rattle.dft_encode.specs.Finding.{HasPatterns}
use Rattle.dft_encode.proofs.filling.fill.Given as goal

abbrev pub invariant-loop-first : goal.invariant-loop-first
invariant-loop-first l = record {
  within : l.first ≤ l.all;
  has : HasPatterns l.finder l.first l.filled l.list;
  capturer : l.capturer ≡ l.initial.capturer;
}

abbrev pub decreases-loop-first : goal.decreases-loop-first
decreases-loop-first l = l.all - l.first
