use Rattle.std.proofs.Common.{◌+◌, ◌∙◌, ℕ, Bool, cond, ap, sym, arith}
use Rattle.dft_configure.specs.Found.{numbers}
use Rattle.dft_configure.specs.Scanned.{is_taken}
use Rattle.dft_configure.proofs.ChoiceLemmas.{count_more}
use Rattle.dft_configure.proofs.scanning.scanned_of.Goals as goal

pub loop-instance-preserved : goal.loop-instance-preserved
loop-instance-preserved c =
    let n = c.args.design.now in
    let p : ℕ → Bool = is_taken n (numbers c.args.roots.now.domains.items) (numbers c.args.roots.now.resets.items) in
    let one = c.one_if-count.ensures.one
    ∙ ap (λ (b : Bool). cond b 1 0) (c.is_taken.ensures ∙ (λ i. is_taken n (numbers (c.deref.ensures.value i)) (numbers (c.deref-in-loop-instance.ensures.value i)) c.loop-instance.instance)) in
    let few = c.one_if-count.ensures.few in
    let before = c.loop-instance.invariant.few in
    record {
      count = (λ i. c.loop-instance.invariant.count i + one i) ∙ sym (count_more p c.loop-instance.instance);
      few = omega (arith, few, before);
    }
