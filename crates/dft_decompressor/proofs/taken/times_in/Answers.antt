use Rattle.std.proofs.Common.{◌==◌, ◌∙◌, ℕ, List, Bool, ap, arith}
use Rattle.std.specs.List.{list_any}
use Rattle.dft_decompressor.proofs.Lists.{counted_item}
use Rattle.dft_decompressor.proofs.taken.times_in.Goals as goal

pub loop-set-preserved : goal.loop-set-preserved
loop-set-preserved c =
    let p : List ℕ → Bool = λ set. list_any (λ other. other == c.args.stage) set in
    let more = c.one_if-times.ensures.one in
    record {
      counted = counted_item p c.args.sets.now c.loop-set.set-index c.set-item.result c.is_among.result c.loop-set.times c.one_if-times.result c.loop-set-test.true c.set-item.is (c.is_among.ensures ∙ ap p c.as_slice.ensures) more c.loop-set.invariant.counted;
      few = let few = c.one_if-times.ensures.few in let before = c.loop-set.invariant.few in omega (arith, few, before);
    }
