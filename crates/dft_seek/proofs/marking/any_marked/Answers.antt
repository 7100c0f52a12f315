-- By the numbers of the nets.
use Rattle.std.proofs.Common.{◌∙◌}
use Rattle.dft_seek.proofs.MarkLemmas.{any_numbers}
use Rattle.dft_seek.proofs.marking.any_marked.Goals as goal

pub returns : goal.returns
returns c = c.is_any_marked.ensures ∙ any_numbers c.args.marked.now c.args.nets.now
