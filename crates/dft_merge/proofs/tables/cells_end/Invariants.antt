-- The numbers so far are below the end so far.
use Rattle.std.proofs.Common.{take}
use Rattle.dft_merge.specs.Placement.{cell_number}
use Rattle.dft_merge.specs.Tables.{AreBelow}
use Rattle.dft_merge.proofs.tables.cells_end.Given as goal

abbrev pub invariant-loop-given : goal.invariant-loop-given
invariant-loop-given l = AreBelow cell_number l.end (take l.given-index l.cells)
