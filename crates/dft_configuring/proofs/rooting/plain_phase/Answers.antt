use Rattle.std.proofs.Common.{◌++◌, ◌∷◌, [], ◌∙◌}
use Rattle.std.proofs.lemmas.List.{replicate-append-replicate}
use Rattle.dft_configuring.proofs.rooting.plain_phase.Goals as goal

pub loop-chain-preserved : goal.loop-chain-preserved
loop-chain-preserved c =
    c.in_ok-push.ensures.items ∙ (λ i. c.loop-chain.invariant i ++ c.in_ok-first_stage.ensures i ∷ []) ∙ replicate-append-replicate c.loop-chain._chain 1 (0 ∷ [])
