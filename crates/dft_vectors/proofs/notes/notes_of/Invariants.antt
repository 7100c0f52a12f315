-- The notes so far, and the number of the next vector.
use Rattle.std.proofs.Common.{◌≡◌, ◌≤◌, ◌+◌, ◌*◌, ◌∷◌, map}
use Rattle.std.specs.List.{range_with_len}
use Rattle.dft_patterns.specs.declared.notes.NoteKind.TheVariants.{SetUp}
use Rattle.dft_vectors.specs.VectorList.{first_vector, pattern_note}
use Rattle.dft_vectors.proofs.notes.notes_of.Given as goal

abbrev pub invariant-loop-pattern : goal.invariant-loop-pattern
invariant-loop-pattern l = record {
  notes : l.notes.items ≡ record { before = 0; what = SetUp } ∷ map (pattern_note l.cycles l.captures) (range_with_len 0 l.pattern);
  next : l.before ≡ first_vector l.cycles l.captures l.pattern;
  few : l.before ≤ 1 + l.pattern * 4351;
}
