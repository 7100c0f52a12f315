-- The inputs so far, and the rest.
use Rattle.std.proofs.Common.{◌≡◌, drop}
use Rattle.dft_cells.specs.Gates.{shared, all_one}
use Rattle.dft_cells.specs.Tables.{and_tri}
use Rattle.dft_cells.proofs.gates.and_of.Given as goal

abbrev pub invariant-loop-input : goal.invariant-loop-input
invariant-loop-input l = shared all_one l.inputs ≡ and_tri l.all (shared all_one (drop l.input-index l.inputs))
