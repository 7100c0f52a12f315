-- The bits that are left to note give the table what all give it.
use Rattle.dft_merge.specs.Placement.{cell_number}
use Rattle.dft_merge.proofs.BitLemmas.{IsNoting}
use Rattle.dft_merge.proofs.tables.note_cells.Given as goal

abbrev pub invariant-loop-given : goal.invariant-loop-given
invariant-loop-given l = IsNoting cell_number l.initial.table l.cells l.table l.given-index
