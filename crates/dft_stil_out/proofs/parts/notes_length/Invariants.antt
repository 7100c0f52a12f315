-- The bytes so far.
use Rattle.std.proofs.Common.{◌≡◌, take, length}
use Rattle.std.specs.List.{sum_by}
use Rattle.dft_stil_out.specs.Written.{note_line}
use Rattle.dft_stil_out.proofs.parts.notes_length.Given as goal

abbrev pub invariant-loop-note : goal.invariant-loop-note
invariant-loop-note l = l.bytes ≡ sum_by (λ n. length (note_line n)) (take l.note-index l.notes)
