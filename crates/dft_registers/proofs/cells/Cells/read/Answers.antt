-- One value more is read.
use Rattle.std.proofs.Common.{ℕ, List, ◌<◌, ◌∙◌, length, get_or-set_same, arith}
use Rattle.std.proofs.lemmas.List.{take_more_same, take-set, length-set}
use Rattle.dft_registers.proofs.cells.Cells.read.Goals as goal

pub loop-cell-preserved : goal.loop-cell-preserved
loop-cell-preserved g c =
    let n : ℕ = c.loop-cell.cell in
    let row : List _ = c.loop-cell.row in
    let less : n < length row = omega (arith, c.loop-cell.auto.row, c.loop-cell-test.true) in
    take_more_same _ c.args.self.now.values n g.V.Value.unknown_value (omega (arith, length-set row n c.at.result, less)) (omega (arith, c.requires, c.loop-cell-test.true)) (take-set row n c.at.result ∙ c.loop-cell.invariant)
    (get_or-set_same row n c.at.result g.V.Value.unknown_value less ∙ c.at.ensures)
