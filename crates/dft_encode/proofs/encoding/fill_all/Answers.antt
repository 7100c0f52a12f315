-- The planned design, as it is lent.
use Rattle.std.proofs.Common.{◌≡◌}
use Rattle.dft_encode.proofs.encoding.fill_all.Goals as goal

pub fill-requires-clause-capturer : goal.fill-requires-clause-capturer
fill-requires-clause-capturer c = rw c.planned.ensures at c.in_ok-capturer.ensures
