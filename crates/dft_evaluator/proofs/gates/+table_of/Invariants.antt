use Rattle.std.proofs.Common.{length}
use Rattle.dft_evaluator.proofs.gates.+table_of.Given as goal

abbrev pub decreases-table_of : goal.decreases-table_of
decreases-table_of l = length l.inputs.now
