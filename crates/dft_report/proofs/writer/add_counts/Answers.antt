use Rattle.std.proofs.Common.{append_assoc}
use Rattle.dft_report.specs.Written.{counts_text}
use Rattle.dft_report.proofs.writer.add_counts.Goals as goal

pub returns : goal.returns
unfolding counts_text
returns c = rw (c.in_ok-add_number-2.ensures, c.from-2.ensures, c.in_ok-extend_from_slice-2.ensures.items, c.in_ok-add_number.ensures, c.from.ensures, c.in_ok-extend_from_slice.ensures.items) (simp append_assoc)
