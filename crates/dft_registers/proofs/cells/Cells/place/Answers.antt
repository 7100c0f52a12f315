-- Each cell with a value has a place.
use Rattle.dft_registers.proofs.CellLemmas.{placed}
use Rattle.dft_registers.proofs.cells.Cells.place.Goals as goal

pub place-requires : goal.place-requires
place-requires g c = placed c.self.inside c.args.self.now c.args.cell c.self.invariant c.self.view_is c.requires
