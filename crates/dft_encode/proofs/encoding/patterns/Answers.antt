-- The design, its configuration and its chains, as they are lent.
use Rattle.std.proofs.Common.{◌≡◌, ◌∙◌}
use Rattle.dft_encode.proofs.encoding.patterns.Goals as goal

pub fill_all-requires-clause-list : goal.fill_all-requires-clause-list
fill_all-requires-clause-list c = rw c.requires.chains (rw c.planned.ensures at c.in_ok-list.ensures)
