-- The bit is set or cleared.
use Rattle.std.proofs.Common.{◌∙◌, Bool, sym, ap}
use Rattle.std.specs.Prelude.{◌==◌, if◌then◌else◌}
use Rattle.dft_base.specs.Packed.{packed_bit}
use Rattle.dft_evaluator.proofs.BitLemmas.{set, cleared}
use Rattle.dft_evaluator.proofs.wides.write.Goals as goal

pub returns-then-bit : goal.returns-then-bit
returns-then-bit c = λ k. c.put.ensures k ∙ set (packed_bit c.args.row.now k) (k == c.args.place)
    ∙ ap (λ (b : Bool). if k == c.args.place then b else packed_bit c.args.row.now k) (sym c.if-bit.true)

pub returns-else-bit : goal.returns-else-bit
returns-else-bit c = λ k. cleared c.args.row.now c.args.place k c.requires
    ∙ ap (λ (b : Bool). if k == c.args.place then b else packed_bit c.args.row.now k) (sym c.if-bit.false)
