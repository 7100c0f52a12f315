-- What the flip-flops before this one need is marked.
use Rattle.dft_takings.proofs.EntryTableLemmas.{MarkedFor}
use Rattle.dft_takings.proofs.marks.mark_entries.Given as goal

abbrev pub invariant-loop-place : goal.invariant-loop-place
invariant-loop-place l = MarkedFor l.flops l.entries l.initial.marked l.marked l.place
