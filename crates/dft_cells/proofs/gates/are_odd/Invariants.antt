-- The inputs so far, and the rest.
use Rattle.std.proofs.Common.{◌≡◌, drop, cond, not}
use Rattle.dft_cells.specs.Gates.{odd_ones}
use Rattle.dft_cells.proofs.gates.are_odd.Given as goal

abbrev pub invariant-loop-input : goal.invariant-loop-input
invariant-loop-input l = odd_ones l.inputs ≡ cond l.odd (not (odd_ones (drop l.input-index l.inputs))) (odd_ones (drop l.input-index l.inputs))
