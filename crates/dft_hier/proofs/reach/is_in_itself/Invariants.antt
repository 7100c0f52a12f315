use Rattle.dft_hier.proofs.SearchLemmas.{HasBegun}
use Rattle.dft_hier.proofs.reach.is_in_itself.Given as goal

abbrev pub invariant-loop-place : goal.invariant-loop-place
invariant-loop-place l = HasBegun l.children l.number l.place l.search
