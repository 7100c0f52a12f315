use Rattle.dft_config.specs.Range.{same_tap}
use Rattle.dft_config_text.proofs.DistinctLemmas.{differ_along, two_tied}
use Rattle.dft_config_text.proofs.distinct.taps_differ.Goals as goal

pub returns : goal.returns
returns c = differ_along _ same_tap c.args.taps.now c.items_differ.result c.items_differ.ensures (λ a b. two_tied a.from b.from a.to b.to)
