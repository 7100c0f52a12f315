-- The name of each entry.
use Rattle.dft_cells.proofs.NamedRows.{named_at}
use Rattle.dft_cells.proofs.standard.pins_of.Goals as goal

pub from_slice-requires : goal.from_slice-requires
from_slice-requires c = rw c.as_bytes.ensures.value (named_at (λ p. p.0.now) c.args.entries.now c.loop-name.name-index _ c.requires c.loop-name-test.true)
