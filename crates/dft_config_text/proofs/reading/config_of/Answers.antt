use Rattle.toml.specs.View.{table_view}
use Rattle.dft_config.specs.Shown.{drafted}
use Rattle.dft_config_text.proofs.RangeLemmas.{passed_in_range}
use Rattle.dft_config_text.proofs.reading.config_of.Goals as goal

pub of_draft-requires : goal.of_draft-requires
of_draft-requires c = passed_in_range (table_view c.args.table.now) (drafted c.in_ok-draft.draft) c.in_ok-draft.ensures.ok c.in_ok-check.ensures.ok
