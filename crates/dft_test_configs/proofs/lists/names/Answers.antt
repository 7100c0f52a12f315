-- The name of each text.
use Rattle.std.proofs.lemmas.List.Sums.{AllPass-from_list_all}
use Rattle.dft_base.specs.Names.{is_name}
use Rattle.dft_base.proofs.NameLemmas.{name_tested}
use Rattle.dft_test_configs.proofs.lists.names.Goals as goal

pub from_slice-requires : goal.from_slice-requires
from_slice-requires c =
    rw c.as_bytes.ensures.value (name_tested _ (AllPass-from_list_all (λ text. is_name text.now) c.args.texts.now c.requires c.loop-text.text-index _ c.loop-text-test.true))
