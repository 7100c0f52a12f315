use Rattle.std.proofs.Common.{◌<◌, ◌≤◌, ◌∙◌, ℕ, length, subst, sym}
use Rattle.dft_decompressor.specs.Rings.{around, is_free}
use Rattle.dft_decompressor.proofs.InjectorLemmas.{around_at, around_length}
use Rattle.dft_decompressor.proofs.Lists.{find_here, find_on, find_over}
use Rattle.dft_decompressor.proofs.injecting.first_free.Goals as goal

pub returns-then-is_free : goal.returns-then-is_free
returns-then-is_free c =
    let within : c.loop-distance.distance < length (around c.args.stages c.args.start) = subst (λ (n : ℕ). c.loop-distance.distance < n) (sym (around_length c.args.stages c.args.start)) c.loop-distance-test.true in
    sym (find_here (is_free c.args.taps.now c.args.before.now) (around c.args.stages c.args.start) c.loop-distance.distance _ within (around_at c.args.stages c.args.start c.loop-distance.distance c.loop-distance-test.true)
    (sym c.is_free.ensures ∙ c.if-is_free.true) c.loop-distance.invariant)

pub loop-distance-preserved : goal.loop-distance-preserved
loop-distance-preserved c =
    let within : c.loop-distance.distance < length (around c.args.stages c.args.start) = subst (λ (n : ℕ). c.loop-distance.distance < n) (sym (around_length c.args.stages c.args.start)) c.loop-distance-test.true in
    find_on (is_free c.args.taps.now c.args.before.now) (around c.args.stages c.args.start) c.loop-distance.distance _ within (around_at c.args.stages c.args.start c.loop-distance.distance c.loop-distance-test.true)
    (sym c.is_free.ensures ∙ c.if-is_free.false) c.loop-distance.invariant

pub returns : goal.returns
returns c =
    let past : length (around c.args.stages c.args.start) ≤ c.loop-distance.distance = subst (λ (n : ℕ). n ≤ c.loop-distance.distance) (sym (around_length c.args.stages c.args.start)) c.loop-distance-test.false in
    find_over (is_free c.args.taps.now c.args.before.now) (around c.args.stages c.args.start) c.loop-distance.distance past c.loop-distance.invariant
