use Rattle.std.proofs.Common.{◌∙◌, sym}
use Rattle.dft_base.proofs.NameLemmas.{name_tested}
use Rattle.dft_base.proofs.names.name_of.Goals as goal

pub from_slice-requires : goal.from_slice-requires
from_slice-requires c = name_tested c.args.bytes.now (sym c.is_name.ensures ∙ c.if-is_name.true)
