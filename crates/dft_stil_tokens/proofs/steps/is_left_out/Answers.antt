use Rattle.dft_stil_tokens.specs.Steps.{left_out}
use Rattle.dft_stil_tokens.proofs.steps.is_left_out.Goals as goal

pub returns : goal.returns
unfolding left_out
returns c = c.is_among.ensures
