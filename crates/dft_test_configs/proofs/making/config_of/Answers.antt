-- A configuration that passes the test is in range.
use Rattle.dft_test_configs.proofs.InRange.{in_range}
use Rattle.dft_test_configs.proofs.making.config_of.Goals as goal

pub of_draft-requires : goal.of_draft-requires
of_draft-requires c = rw c.in_ok-draft.ensures (in_range c.args.shape.now c.requires.range)
