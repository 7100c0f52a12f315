-- The rest of the inputs gives what all of them give.
use Rattle.std.proofs.Common.{◌≡◌, drop}
use Rattle.dft_cells.specs.Gates.{all_one}
use Rattle.dft_cells.proofs.gates.are_all_one.Given as goal

abbrev pub invariant-loop-input : goal.invariant-loop-input
invariant-loop-input l = all_one l.inputs ≡ all_one (drop l.input-index l.inputs)
