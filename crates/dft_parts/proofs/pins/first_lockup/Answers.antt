use Rattle.dft_cells.specs.declared.kind.Kind.TheVariants.{Lockup}
use Rattle.dft_parts.proofs.FirstCells.{first_lockup_is, first_there}
use Rattle.dft_parts.proofs.pins.first_lockup.Goals as goal

pub returns-clause-first : goal.returns-clause-first
returns-clause-first c = first_lockup_is c.args.library.now c.in-Some.cell c.in-Some.ensures.first

pub returns-clause-there : goal.returns-clause-there
returns-clause-there c = first_there c.args.library.now Lockup c.in-Some.cell c.in-Some.ensures.first
