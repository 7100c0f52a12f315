use Rattle.std.proofs.Common.{Bool, false, List, ap, get_or, ◌∙◌}
use Rattle.dft_stitch.proofs.chains.Chains.falling_head.Goals as goal

pub returns : goal.returns
returns c = rw (← c.self.view_is) (c.head_at.ensures ∙ ap (λ (xs : List Bool). get_or xs c.args.c false) c.deref.ensures.value)
