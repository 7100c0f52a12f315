-- The flags of the cells so far.
use Rattle.dft_seek.proofs.Filled.{Flagging}
use Rattle.dft_seek.proofs.tables.flag_all.Given as goal

abbrev pub invariant-loop-cell : goal.invariant-loop-cell
invariant-loop-cell l = Flagging l.cells l.initial.flags l.cell-index l.flags
