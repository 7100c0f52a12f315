-- The entries of a map are as many as the keys of its table.
use Rattle.std.proofs.Common.{sym, arith}
use Rattle.dft_library_text.proofs.ReadingLemmas.{few_enough, too_many}
use Rattle.dft_library_text.proofs.reader.few.Goals as goal

pub returns-then-len-le-MAX_CELLS : goal.returns-then-len-le-MAX_CELLS
returns-then-len-le-MAX_CELLS c = sym (few_enough c.args.cells.now.entries (omega (arith, c.len.ensures.len)))

pub returns-else-len-le-MAX_CELLS : goal.returns-else-len-le-MAX_CELLS
returns-else-len-le-MAX_CELLS c = sym (too_many c.args.cells.now.entries (omega (arith, c.len.ensures.len)))
