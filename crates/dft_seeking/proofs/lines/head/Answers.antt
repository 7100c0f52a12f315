use Rattle.std.proofs.Common.{append_assoc}
use Rattle.dft_seeking.specs.Written.{head_text}
use Rattle.dft_seeking.proofs.lines.head.Goals as goal

pub returns : goal.returns
unfolding head_text
returns c =
    rw (
      c.in_ok-extend_from_slice-4.ensures.items,
      c.in_ok-add_number-4.ensures,
      c.in_ok-extend_from_slice-3.ensures.items,
      c.in_ok-add_number-3.ensures,
      c.in_ok-extend_from_slice-2.ensures.items,
      c.in_ok-add_number-2.ensures,
      c.in_ok-extend_from_slice.ensures.items,
      c.in_ok-add_number.ensures,
      c.in_ok-out.ensures.items,
    ) (simp append_assoc)
