use Rattle.dft_cells.specs.declared.kind.TheConstants.{DFF}
use Rattle.dft_parts.proofs.FirstCells.{first_dff_is, first_there}
use Rattle.dft_parts.proofs.pins.first_dff.Goals as goal

pub returns-clause-first : goal.returns-clause-first
returns-clause-first c = first_dff_is c.args.library.now c.in-Some.cell c.in-Some.ensures.first

pub returns-clause-there : goal.returns-clause-there
returns-clause-there c = first_there c.args.library.now DFF c.in-Some.cell c.in-Some.ensures.first
