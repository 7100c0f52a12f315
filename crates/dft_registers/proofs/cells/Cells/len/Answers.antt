-- There are as many values as places.
use Rattle.std.proofs.Common.{◌∙◌, sym, ap, length}
use Rattle.dft_registers.specs.Cells.{Contents}
use Rattle.dft_registers.proofs.CellLemmas.{count_in}
use Rattle.dft_registers.proofs.cells.Cells.len.Goals as goal

pub returns : goal.returns
returns g c =
    let d = c.self.inside in
    c.count.ensures.count ∙ sym (count_in d.rows.items d.layout.places d.resting.items c.self.invariant.resting) ∙ ap (λ (k : Contents _). length k.values) c.self.view_is
