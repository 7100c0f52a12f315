use Rattle.std.proofs.Common.{map, refl}
use Rattle.dft_config_text.proofs.DistinctLemmas.{texts_differ}
use Rattle.dft_config_text.proofs.distinct.texts_differ.Goals as goal

pub returns : goal.returns
returns c = texts_differ c.args.texts.now (map (λ t. t.now) c.args.texts.now) c.items_differ.result c.items_differ.ensures refl
