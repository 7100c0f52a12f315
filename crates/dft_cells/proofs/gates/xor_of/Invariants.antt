-- The inputs so far, and the rest.
use Rattle.std.proofs.Common.{◌≡◌, drop}
use Rattle.dft_cells.specs.Gates.{shared, odd_ones}
use Rattle.dft_cells.specs.Tables.{xor_tri}
use Rattle.dft_cells.proofs.gates.xor_of.Given as goal

abbrev pub invariant-loop-input : goal.invariant-loop-input
invariant-loop-input l = shared odd_ones l.inputs ≡ xor_tri l.odd (shared odd_ones (drop l.input-index l.inputs))
