use Rattle.dft_hier.specs.Moving.{connection_names}
use Rattle.dft_numbered.proofs.NumberLemmas.{FindsSoFar}
use Rattle.dft_hier.proofs.flat_joins.connection_numbers.Given as goal

abbrev pub invariant-loop-number : goal.invariant-loop-number
invariant-loop-number l = FindsSoFar l.numbers l.number (connection_names l.connections)
