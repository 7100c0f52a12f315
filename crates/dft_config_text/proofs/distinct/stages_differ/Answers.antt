use Rattle.std.specs.Cmp.{unsigned_tied}
use Rattle.dft_config.specs.Range.{same_number}
use Rattle.dft_config_text.proofs.DistinctLemmas.{differ_along}
use Rattle.dft_config_text.proofs.distinct.stages_differ.Goals as goal

pub returns : goal.returns
returns c = differ_along _ same_number c.args.stages.now c.items_differ.result c.items_differ.ensures unsigned_tied
