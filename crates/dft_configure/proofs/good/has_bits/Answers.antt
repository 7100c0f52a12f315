use Rattle.std.proofs.Common.{◌∙◌, sym}
use Rattle.dft_base.specs.Packed.{packed_bit}
use Rattle.dft_configure.proofs.RangeLemmas.{any_on}
use Rattle.dft_configure.proofs.good.has_bits.Goals as goal

pub loop-column-preserved : goal.loop-column-preserved
loop-column-preserved c = any_on (packed_bit c.args.row.now) c.loop-column.column c.args.columns _ c.loop-column-test.true (sym c.has_bit.ensures ∙ c.if-has_bit.false) c.loop-column.invariant
