use Rattle.std.proofs.Common.{◌≡◌, ◌∙◌, ap, sym, not, false}
use Rattle.dft_base.specs.Packed.{packed_bit}
use Rattle.dft_base.specs.Solutions.{xor}
use Rattle.dft_configure.proofs.RangeLemmas.{all_on}
use Rattle.dft_configure.proofs.good.same_bits.Goals as goal

pub loop-column-preserved : goal.loop-column-preserved
loop-column-preserved c =
    let k = c.loop-column.column in
    let same : xor (packed_bit c.args.row.now k) (packed_bit c.args.other.now k) ≡ false =
    (λ i. xor (sym c.has_bit.ensures i) (sym c.has_bit-in-loop-column.ensures i)) ∙ sym c.differ.ensures ∙ c.if-differ.false in
    all_on (λ column. not (xor (packed_bit c.args.row.now column) (packed_bit c.args.other.now column))) k c.args.columns _ c.loop-column-test.true (ap not same) c.loop-column.invariant
