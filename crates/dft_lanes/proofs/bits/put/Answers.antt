use Rattle.std.proofs.Common.{Bool, ap, sym, ◌∙◌}
use Rattle.std.specs.Prelude.{◌||◌, ◌&&◌, ◌==◌}
use Rattle.dft_base.specs.Packed.{packed_bit}
use Rattle.dft_lanes.proofs.RowLemmas.{written}
use Rattle.dft_lanes.proofs.bits.put.Goals as goal

pub returns-then-bit : goal.returns-then-bit
returns-then-bit c = λ k.
    written c.args.row.now c.args.place k c.requires
    ∙ ap (λ (b : Bool). packed_bit c.args.row.now k || ((k == c.args.place) && b)) (sym c.if-bit.true)
