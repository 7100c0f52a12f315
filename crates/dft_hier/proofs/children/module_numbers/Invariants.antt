use Rattle.dft_hier.specs.Numbers.{module_names}
use Rattle.dft_numbered.proofs.NumberLemmas.{FindsSoFar}
use Rattle.dft_hier.proofs.children.module_numbers.Given as goal

abbrev pub invariant-loop-number : goal.invariant-loop-number
invariant-loop-number l = FindsSoFar l.numbers l.number (module_names l.modules)
