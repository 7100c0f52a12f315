-- One chain more.
use Rattle.std.proofs.Common.{[], ◌∙◌, List, ℕ, ap}
use Rattle.dft_config.specs.Range.{has, same_number}
use Rattle.dft_vectors.proofs.ListLemmas.{grown}
use Rattle.dft_encode.proofs.settings.always_masked.Goals as goal

pub loop-chain-preserved : goal.loop-chain-preserved
loop-chain-preserved c =
    grown (has same_number c.args.config.now.always_masked) [] c.loop-chain.always.items c.push.new.self.items c.loop-chain.chain c.is_listed.result c.loop-chain.invariant c.in_ok-push.ensures.items
    (c.is_listed.ensures ∙ ap (λ (l : List ℕ). has same_number l c.loop-chain.chain) c.always_masked.ensures)
