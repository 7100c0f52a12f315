-- The loaded bits.
use Rattle.std.proofs.Common.{◌∙◌}
use Rattle.dft_expect.proofs.ReadLemmas.{begun}
use Rattle.dft_expect.proofs.reading.begin.Goals as goal

pub returns : goal.returns
returns c =
    let fixed = c.args.fixed.now in
    begun fixed.design.now fixed.config.now c.args.pattern.now fixed.reads.now _ c.requires.fixed.can c.requires.fixed.reads (c.from_vec.ensures ∙ c.in_ok-cells.ensures) (c.from_vec-2.ensures ∙ c.new.ensures.items)
