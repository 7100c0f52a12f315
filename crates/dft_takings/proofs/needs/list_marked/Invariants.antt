-- The marked nets before this one are listed.
use Rattle.dft_takings.proofs.NeedLemmas.{Listing}
use Rattle.dft_takings.proofs.needs.list_marked.Given as goal

abbrev pub invariant-loop-net : goal.invariant-loop-net
invariant-loop-net l = Listing l.marked l.circuit.order l.list l.count l.net-index
