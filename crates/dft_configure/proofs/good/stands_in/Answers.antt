use Rattle.std.proofs.Common.{◌∙◌, sym}
use Rattle.dft_base.specs.Solutions.{bit_at}
use Rattle.dft_equations.specs.LoadRows.{row_of}
use Rattle.dft_configure.specs.Good.{same_bits}
use Rattle.dft_configure.proofs.RangeLemmas.{any_on}
use Rattle.dft_configure.proofs.good.stands_in.Goals as goal

pub loop-spot-preserved : goal.loop-spot-preserved
loop-spot-preserved c =
    let rows = c.args.equations.now in
    any_on (λ spot. same_bits rows.columns (bit_at (row_of rows c.args.chain c.args.place)) (bit_at (row_of rows c.args.other spot))) c.loop-spot.spot c.args.places _ c.loop-spot-test.true (sym c.same_cells.ensures ∙ c.if-same_cells.false) c.loop-spot.invariant
