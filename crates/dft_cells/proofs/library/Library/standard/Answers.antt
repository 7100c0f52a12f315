-- The standard cells are well formed.
use Rattle.dft_cells.proofs.StandardFits.{standard_fits}
use Rattle.dft_cells.proofs.library.Library.standard.Goals as goal

pub invariant_of-result : goal.invariant_of-result
invariant_of-result c = rw c.in_ok-cells.ensures standard_fits
