-- The rest of the inputs gives what all of them give.
use Rattle.std.proofs.Common.{◌≡◌, drop}
use Rattle.dft_cells.specs.Gates.{any_one}
use Rattle.dft_cells.proofs.gates.is_one_there.Given as goal

abbrev pub invariant-loop-input : goal.invariant-loop-input
invariant-loop-input l = any_one l.inputs ≡ any_one (drop l.input-index l.inputs)
