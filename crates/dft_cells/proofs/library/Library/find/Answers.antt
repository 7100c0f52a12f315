-- A search by name, judged by its definition.
use Rattle.dft_cells.proofs.Finding.{found_named}
use Rattle.dft_cells.proofs.library.Library.find.Goals as goal

pub returns-clause-named : goal.returns-clause-named
returns-clause-named c = rw (c.find_in.ensures, c.deref.ensures.value, c.self.view_is) (found_named c.args.self.now c.args.name.now)
