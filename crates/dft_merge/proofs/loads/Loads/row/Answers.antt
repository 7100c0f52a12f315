use Rattle.std.proofs.Common.{◌∙◌, List, Bool, Some, ap}
use Rattle.dft_equations.specs.LoadRows.{row_of}
use Rattle.dft_merge.proofs.PlaceLemmas.{row_bits, row_found, row_nowhere, row_packed}
use Rattle.dft_merge.proofs.loads.Loads.row.Goals as goal

pub returns-in_err-at : goal.returns-in_err-at
returns-in_err-at c =
    let l = c.args.self.now in
    rw c.from_residual.ensures (row_nowhere l.plan.chains l.rows c.args.cell (rw c.chains.ensures at c.in_err-at.ensures.nowhere))

pub returns : goal.returns
returns c =
    let l = c.args.self.now in
    let at = c.in_ok-at.at in
    let words = c.of_cell.result.now in
    let row : List Bool = row_of l.rows at.chain at.place in
    let size = rw c.equations.ensures at c.of_cell.ensures.size in
    let same = rw c.equations.ensures at c.of_cell.ensures.row in
    let width = rw c.equations.ensures at c.of_cell.ensures.width in
    let bits = row_bits l.rows.columns row words size same width in (
      row_packed l.rows.columns row words size same width,
      row_found l.plan.chains l.rows c.args.cell at.chain at.place c.soundness.ensures.rows.apart (rw c.chains.ensures at c.in_ok-at.ensures.stands) ∙ ap (λ (r : List Bool). Some r) bits,
    )
