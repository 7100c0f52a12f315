-- Each row that a column before this one leads is solved, and each other column before it has its fill bit.
use Rattle.dft_gf2.proofs.Choices.{Fills}
use Rattle.dft_gf2.proofs.system.System.solve.Given as goal

abbrev pub invariant-loop-column : goal.invariant-loop-column
invariant-loop-column g l = Fills l.self-inside.columns l.self-inside.rows l.self-inside.row_of.items l.fill.like.now l.bits l.column
