use Rattle.std.proofs.Common.{◌++◌}
use Rattle.dft_stil_out.specs.Written as form
use Rattle.dft_stil_out.proofs.NoteLemmas.{Written}
use Rattle.dft_stil_out.proofs.writer.add_vectors.Given as goal

abbrev pub invariant-loop-place : goal.invariant-loop-place
invariant-loop-place l = Written l.count l.vectors (l.fn.out.items ++ form.noted_lines l.count 0 l.vectors l.notes) l.out.items l.ahead l.place
