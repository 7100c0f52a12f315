-- The nets before this one are marked.
use Rattle.dft_takings.proofs.EntryTableLemmas.{MarkedNets}
use Rattle.dft_takings.proofs.marks.mark_nets.Given as goal

abbrev pub invariant-loop-net : goal.invariant-loop-net
invariant-loop-net l = MarkedNets l.initial.marked l.marked l.nets l.net-index
