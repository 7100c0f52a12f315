use Rattle.std.proofs.Common.{append_assoc}
use Rattle.dft_report.specs.Written.{unsolvable_text}
use Rattle.dft_report.proofs.cubes.add_unsolvable.Goals as goal

pub returns : goal.returns
unfolding unsolvable_text
returns c = rw (c.in_ok-add_sums.ensures, c.in_ok-extend_from_slice-2.ensures.items, c.in_ok-add_number.ensures, c.in_ok-extend_from_slice.ensures.items) (simp append_assoc)
