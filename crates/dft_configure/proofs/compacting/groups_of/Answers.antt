use Rattle.std.proofs.Common.{◌∙◌, ◌++◌, ◌∷◌, [], sym, arith}
use Rattle.std.proofs.lemmas.List.FromFn.{map-range_with_len_more}
use Rattle.dft_configure.specs.Compacting.{group_of}
use Rattle.dft_configure.proofs.compacting.groups_of.Goals as goal

pub loop-output-preserved : goal.loop-output-preserved
loop-output-preserved c =
    c.in_ok-push.ensures.items ∙ (λ i. c.loop-output.invariant i ++ c.in_ok-group_of.ensures i ∷ [])
    ∙ sym (map-range_with_len_more (group_of c.args.chains c.args.outputs) 0 c.loop-output.output c.loop-output.output (omega arith))
