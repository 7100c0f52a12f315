-- One chain more.
use Rattle.std.proofs.Common.{Bool, false, ◌≡◌, ◌∙◌, length-append, ◌∷◌, [], arith}
use Rattle.dft_stitch.specs.Plans.{falling_head}
use Rattle.dft_equations.proofs.ImpulseLemmas.{push_each}
use Rattle.dft_merge.proofs.loads.heads_of.Goals as goal

pub loop-chain-preserved : goal.loop-chain-preserved
loop-chain-preserved c =
    let before = c.loop-chain.invariant in
    rw c.in_ok-push.ensures.items
    (record {
      count = length-append c.loop-chain.heads.items (c.falling_head.result ∷ []) ∙ omega (arith, before.count);
      each = push_each (λ k (b : Bool). b ≡ falling_head c.args.chains.now k) c.loop-chain.heads.items c.falling_head.result false c.loop-chain.chain before.count before.each c.falling_head.ensures;
    })
