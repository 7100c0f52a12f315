use Rattle.dft_config.specs.Range.{same_injector}
use Rattle.dft_config_text.proofs.DistinctLemmas.{differ_along, two_tied}
use Rattle.dft_config_text.proofs.distinct.injectors_differ.Goals as goal

pub returns : goal.returns
returns c =
    differ_along _ same_injector c.args.injectors.now c.items_differ.result c.items_differ.ensures
    (λ a b. two_tied a.channel b.channel a.stage b.stage)
