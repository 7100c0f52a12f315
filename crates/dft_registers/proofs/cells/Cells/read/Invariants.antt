-- The cells before this one are read.
use Rattle.std.proofs.Common.{◌≡◌, take}
use Rattle.dft_registers.proofs.cells.Cells.read.Given as goal

abbrev pub invariant-loop-cell : goal.invariant-loop-cell
invariant-loop-cell g l = take l.cell l.row ≡ take l.cell l.self.values
