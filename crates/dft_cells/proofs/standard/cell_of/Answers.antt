-- The names of a row.
use Rattle.dft_cells.proofs.NamedRows.{row_parts}
use Rattle.dft_cells.proofs.standard.cell_of.Goals as goal

pub from_slice-requires : goal.from_slice-requires
from_slice-requires c = rw c.as_bytes.ensures.value ((row_parts c.args.row.now c.requires).0)
