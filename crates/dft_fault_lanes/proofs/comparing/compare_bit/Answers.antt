-- A live lane is hit where the value is known to be the opposite.
use Rattle.std.proofs.Common.{ℕ, Bool, ◌≡◌, ◌<◌, ◌∙◌, sym, subst}
use Rattle.dft_lanes.specs.declared.wide.Wide.{Wide}
use Rattle.dft_evaluator.specs.Wides.{value_in}
use Rattle.dft_fault_lanes.specs.Compares.{is_one, differs_in}
use Rattle.dft_fault_lanes.proofs.CompareLemmas.{hit_true, hit_false, marked_as, none_marked}
use Rattle.dft_fault_lanes.proofs.comparing.compare_bit.Goals.{then-printed, else-printed}
use Rattle.dft_fault_lanes.proofs.comparing.compare_bit.Goals as goal

pub returns-then-has_one-clause-marked : goal.returns-then-has_one-clause-marked
returns-then-has_one-clause-marked c =
    let H : Wide → Type 0 = λ hit. (lane : ℕ) → lane < 512 → is_one (value_in hit lane) ≡ differs_in c.args.printed c.args.wide.now c.args.live.now lane in
    let D : Wide → Bool → Type 0 = λ hit b. (lane : ℕ) → lane < 512 → is_one (value_in hit lane) ≡ differs_in b c.args.wide.now c.args.live.now lane in
    let same : H c.if-printed.hit = elim c.if-printed.branch [
      | then-printed w ↦ subst H (sym w.hit-is) (subst (D _) (sym w.if-printed.true) (hit_true c.args.wide.now _ c.args.live.now _ c.requires.wide c.requires.live w.wide_not.ensures w.wide_and-hit.ensures))
      | else-printed w ↦ subst H (sym w.hit-is) (subst (D _) (sym w.if-printed.false) (hit_false c.args.wide.now c.args.live.now _ c.requires.wide c.requires.live w.wide_and-hit-else-printed.ensures))
    ] in
    marked_as c.args.grade (λ lane. is_one (value_in c.if-printed.hit lane)) (differs_in c.args.printed c.args.wide.now c.args.live.now) c.args.live.now c.args.found.now c.mark.new.live c.mark.new.found same c.mark.ensures.marked

pub returns-else-has_one-clause-marked : goal.returns-else-has_one-clause-marked
returns-else-has_one-clause-marked c =
    let H : Wide → Type 0 = λ hit. (lane : ℕ) → lane < 512 → is_one (value_in hit lane) ≡ differs_in c.args.printed c.args.wide.now c.args.live.now lane in
    let D : Wide → Bool → Type 0 = λ hit b. (lane : ℕ) → lane < 512 → is_one (value_in hit lane) ≡ differs_in b c.args.wide.now c.args.live.now lane in
    let same : H c.if-printed.hit = elim c.if-printed.branch [
      | then-printed w ↦ subst H (sym w.hit-is) (subst (D _) (sym w.if-printed.true) (hit_true c.args.wide.now _ c.args.live.now _ c.requires.wide c.requires.live w.wide_not.ensures w.wide_and-hit.ensures))
      | else-printed w ↦ subst H (sym w.hit-is) (subst (D _) (sym w.if-printed.false) (hit_false c.args.wide.now c.args.live.now _ c.requires.wide c.requires.live w.wide_and-hit-else-printed.ensures))
    ] in
    none_marked c.args.grade (differs_in c.args.printed c.args.wide.now c.args.live.now) c.args.live.now c.args.found.now (λ lane within. sym (same lane within) ∙ c.has_one.ensures c.if-has_one.false lane within)
