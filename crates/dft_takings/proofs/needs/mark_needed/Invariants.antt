-- From this place of the order on, what marked nets are settled from is marked.
use Rattle.dft_takings.proofs.NeedLemmas.{Needing}
use Rattle.dft_takings.proofs.needs.mark_needed.Given as goal

abbrev pub invariant-loop-place : goal.invariant-loop-place
invariant-loop-place l = Needing l.circuit.ops l.circuit.order l.initial.marked l.marked l.place
