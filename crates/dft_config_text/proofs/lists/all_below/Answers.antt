-- One number more.
use Rattle.std.proofs.Common.{rules, ℤ, pos, ◌≡◌, get_or, to_z, of_z, w64, sym, ap, ◌∙◌}
use Rattle.dft_config_text.specs.Settings.{below}
use Rattle.dft_config_text.proofs.Steps.{all_step}
use Rattle.dft_config_text.proofs.lists.all_below.Goals as goal

pub loop-number-preserved : goal.loop-number-preserved
loop-number-preserved c =
    let z = get_or c.args.numbers.now c.loop-number.number-index (pos 0) in
    let same : to_z w64 (of_z w64 z) ≡ z = search rules in
    let one = ap (λ (x : ℤ). below c.args.key c.args.bound x) (sym same) ∙ sym c.below.ensures ∙ c.in_ok-below.was in
    rw c.in_ok-push.ensures.items
    (c.loop-number.invariant ∙ all_step c.args.key c.args.bound c.args.numbers.now c.loop-number.number-index (pos 0) c.loop-number.list.items c.in_ok-below.field-0 c.loop-number-test.true one)
