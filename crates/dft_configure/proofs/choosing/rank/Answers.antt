use Rattle.std.proofs.Common.{◌+◌, ◌∙◌, ℕ, Bool, cond, ap, sym, arith}
use Rattle.dft_configure.specs.Found.{count_at}
use Rattle.dft_configure.specs.Roots.{comes_before}
use Rattle.dft_configure.proofs.ChoiceLemmas.{count_more}
use Rattle.dft_configure.proofs.choosing.rank.Goals as goal

pub loop-other-preserved : goal.loop-other-preserved
loop-other-preserved c =
    let p : ℕ → Bool = λ other. comes_before (count_at c.args.counts.now) other c.args.net in
    let one = c.one_if-rank.ensures.one ∙ ap (λ (b : Bool). cond b 1 0) c.comes_before.ensures in
    let few = c.one_if-rank.ensures.few in
    let before = c.loop-other.invariant.few in
    record {
      counted = (λ i. c.loop-other.invariant.counted i + one i) ∙ sym (count_more p c.loop-other.other);
      few = omega (arith, few, before);
    }
