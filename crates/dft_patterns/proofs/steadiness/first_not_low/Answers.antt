use Rattle.std.proofs.Common.{◌∙◌, ◌<◌, ℕ, length, sym, false, get_or, arith}
use Rattle.std.proofs.lemmas.List.{get_or_default}
use Rattle.dft_patterns.specs.declared.act.Act.TheVariants.{Ignore}
use Rattle.dft_patterns.proofs.SteadyLemmas.{low_passed, flagless_passed}
use Rattle.dft_patterns.proofs.steadiness.first_not_low.Goals.{else-is_not_low-via-then-is_not_low+else-flags-signal, else-is_not_low-via-else-is_not_low}
use Rattle.dft_patterns.proofs.steadiness.first_not_low.Goals as goal

pub loop-signal-preserved : goal.loop-signal-preserved
loop-signal-preserved c =
    let acts = c.args.acts.now in
    let flags = c.args.flags.now in
    let place : ℕ = c.loop-signal.signal in
    let less : place < length acts = c.loop-signal-test.true in
    let inside : place < length flags = omega (arith, c.requires) in
    elim c.else-is_not_low.branch [
      | else-is_not_low-via-then-is_not_low+else-flags-signal w ↦ flagless_passed (λ s. get_or flags s false) acts place Ignore _ less (sym (get_or_default flags place _ false inside) ∙ w.if-flags-signal.false) c.loop-signal.invariant
      | else-is_not_low-via-else-is_not_low w ↦ low_passed (λ s. get_or flags s false) acts place _ _ less (sym c.is_not_low.ensures ∙ w.if-is_not_low.false) c.loop-signal.invariant
    ]
