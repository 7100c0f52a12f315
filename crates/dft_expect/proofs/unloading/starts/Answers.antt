-- One start more.
use Rattle.std.proofs.Common.{ℕ, ◌≡◌, ◌∙◌, ap, length, arith}
use Rattle.std.proofs.lemmas.List.{length-append}
use Rattle.dft_equations.proofs.ImpulseLemmas.{push_each}
use Rattle.dft_expect.proofs.UnloadLemmas.{before, before_next, part_fits}
use Rattle.dft_expect.proofs.unloading.starts.Goals as goal

pub overflow_add-start : goal.overflow_add-start
overflow_add-start c = omega (arith, c.loop-chain.invariant.next, part_fits c.args.chains.now.chains c.loop-chain.chain c.chain.result.now c.chain.ensures, c.requires)

pub loop-chain-preserved : goal.loop-chain-preserved
loop-chain-preserved c =
    let now = c.loop-chain.invariant in
    let chains = c.args.chains.now.chains in
    record {
      count = ap length c.in_ok-push.ensures.items ∙ length-append c.loop-chain.starts.items _ ∙ omega (arith, now.count);
      each = rw c.in_ok-push.ensures.items (push_each (λ k (v : ℕ). v ≡ before chains k) c.loop-chain.starts.items c.loop-chain.start 0 c.loop-chain.chain now.count now.each now.next);
      next = omega (arith, now.next, before_next chains c.loop-chain.chain c.chain.result.now c.chain.ensures);
    }
