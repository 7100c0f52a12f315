use Rattle.std.proofs.Common.{◌≡◌, ◌++◌, flat_map, drop}
use Rattle.dft_stil_out.specs.Written as form
use Rattle.dft_stil_out.proofs.writer.add_notes.Given as goal

abbrev pub invariant-loop-note : goal.invariant-loop-note
invariant-loop-note l = l.out.items ++ flat_map form.note_line (drop l.note-index l.notes) ≡ l.fn.out.items ++ flat_map form.note_line l.notes
