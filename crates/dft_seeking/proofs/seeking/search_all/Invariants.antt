-- What is searched so far, and the faults that are left.
use Rattle.dft_seeking.proofs.SearchLemmas.{SoFar}
use Rattle.dft_seeking.proofs.seeking.search_all.Given as goal

abbrev pub invariant-loop-number : goal.invariant-loop-number
invariant-loop-number l = SoFar l.design l.config l.seeker.domain l.limit l.faults l.number l.gathered
