use Rattle.std.proofs.Common.{sym, ◌∙◌, arith}
use Rattle.dft_base.proofs.NameLemmas.{shown_part_name}
use Rattle.dft_base.proofs.names.printable.Goals as goal

pub from_slice-requires-2 : goal.from_slice-requires-2
from_slice-requires-2 c =
    rw (c.deref.ensures.value, c.loop-byte.invariant)
    (shown_part_name c.args.bytes.now c.loop-byte.byte-index (sym c.is_empty.ensures ∙ c.if-is_empty.false) (omega arith) (omega arith))
