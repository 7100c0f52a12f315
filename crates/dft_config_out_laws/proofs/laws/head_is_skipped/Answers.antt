use Rattle.dft_config_out_laws.proofs.HeadSkipped.{head_skipped}
use Rattle.dft_config_out_laws.proofs.laws.head_is_skipped.Goals as goal

pub returns : goal.returns
returns c = head_skipped
