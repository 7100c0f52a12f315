-- The inputs so far, and the rest.
use Rattle.std.proofs.Common.{◌≡◌, drop}
use Rattle.dft_cells.specs.Gates.{shared, any_one}
use Rattle.dft_cells.specs.Tables.{or_tri}
use Rattle.dft_cells.proofs.gates.or_of.Given as goal

abbrev pub invariant-loop-input : goal.invariant-loop-input
invariant-loop-input l = shared any_one l.inputs ≡ or_tri l.any (shared any_one (drop l.input-index l.inputs))
