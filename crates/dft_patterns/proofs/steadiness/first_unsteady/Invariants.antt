use Rattle.std.proofs.Common.{◌≡◌, drop}
use Rattle.dft_patterns.specs.Steadiness.{first_unsteady_from, pulses}
use Rattle.dft_patterns.proofs.steadiness.first_unsteady.Given as goal

abbrev pub invariant-loop-vector : goal.invariant-loop-vector
invariant-loop-vector l = first_unsteady_from (pulses l.vectors) l.vector (drop l.vector l.vectors) ≡ first_unsteady_from (pulses l.vectors) 0 l.vectors
