use Rattle.dft_hier.specs.Numbers.{port_names}
use Rattle.dft_numbered.proofs.NumberLemmas.{FindsSoFar}
use Rattle.dft_hier.proofs.fitting.port_numbers.Given as goal

abbrev pub invariant-loop-number : goal.invariant-loop-number
invariant-loop-number l = FindsSoFar l.numbers l.number (port_names l.owner.ports)
