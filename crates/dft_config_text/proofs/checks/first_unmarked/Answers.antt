use Rattle.std.proofs.Common.{◌∙◌, ap, sym, false, get_or}
use Rattle.dft_config_text.proofs.CheckLemmas.{first_not_more}
use Rattle.dft_config_text.proofs.checks.first_unmarked.Goals as goal

pub loop-chain-preserved : goal.loop-chain-preserved
loop-chain-preserved c =
    c.loop-chain.invariant ∙ first_not_more (λ k. get_or c.args.reached.now k false) c.loop-chain.chain c.args.chains c.loop-chain-test.true
    (ap (λ i. get_or c.args.reached.now i false) (sym c.from.ensures) ∙ c.if-not-reached-from.false)
