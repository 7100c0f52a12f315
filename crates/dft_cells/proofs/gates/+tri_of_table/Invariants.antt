use Rattle.std.proofs.Common.{length}
use Rattle.dft_cells.proofs.gates.+tri_of_table.Given as goal

abbrev pub decreases-tri_of_table : goal.decreases-tri_of_table
decreases-tri_of_table l = length l.inputs.now
