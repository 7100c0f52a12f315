use Rattle.dft_numbered.proofs.NumberLemmas.{FindsSoFar}
use Rattle.dft_certify.specs.Certifying.{cube_names}
use Rattle.dft_certify.proofs.naming.cube_numbers.Given as goal

abbrev pub invariant-loop-number : goal.invariant-loop-number
invariant-loop-number l = FindsSoFar l.numbers l.number (cube_names l.cubes)
