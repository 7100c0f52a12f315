-- The vectors of the patterns so far, with the set-up vector and the last load.
use Rattle.std.proofs.Common.{◌≡◌, ◌≤◌, ◌+◌, ◌*◌}
use Rattle.dft_vectors.specs.VectorList.{captures_in, first_vector}
use Rattle.dft_compile.proofs.counting.vectors_in.Given as goal

abbrev pub invariant-loop-pattern : goal.invariant-loop-pattern
invariant-loop-pattern l = record {
  vectors : l.vectors ≡ first_vector l.cycles (captures_in l.patterns) l.pattern + l.cycles;
  few : l.vectors ≤ 4097 + l.pattern * 4351;
}
