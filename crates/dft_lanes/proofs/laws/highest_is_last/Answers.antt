use Rattle.std.proofs.Common.{◌∙◌}
use Rattle.dft_lanes.proofs.RowLemmas.{bits-at, top_within}
use Rattle.dft_lanes.proofs.laws.highest_is_last.Goals as goal

pub returns : goal.returns
returns c = λ n words top packed one above. (
  top_within n words top packed one,
  bits-at words n top packed.clear ∙ one,
  λ place past. bits-at words n place packed.clear ∙ above place past,
)
