-- One lane more is marked.
use Rattle.std.proofs.Common.{ℕ, List, Option, ◌+◌, ◌∙◌, sym, subst, ap}
use Rattle.dft_lanes.specs.declared.wide.Wide.{Wide}
use Rattle.dft_evaluator.specs.Wides.{value_in}
use Rattle.dft_grade.specs.declared.found.Grade.{Grade}
use Rattle.dft_fault_lanes.specs.Compares.{is_one}
use Rattle.dft_fault_lanes.proofs.CompareLemmas.{Marking, mark_one, mark_none}
use Rattle.dft_fault_lanes.proofs.comparing.mark.Goals.{then-is_one, else-is_one}
use Rattle.dft_fault_lanes.proofs.comparing.mark.Goals as goal

pub loop-lane-preserved : goal.loop-lane-preserved
loop-lane-preserved c =
    let hit : ℕ → _ = λ lane. is_one (value_in c.args.hit.now lane) in
    let lane : ℕ = c.loop-lane.lane in
    let tells = c.is_one.ensures ∙ ap is_one c.value_in.ensures in
    let M : Wide → List (Option Grade) → Type 0 = λ w f. Marking c.args.grade hit c.args.live.now c.args.found.now w f (lane + 1) in
    elim c.if-is_one.branch [
      | then-is_one w ↦ subst (λ (f : List (Option Grade)). M c.if-is_one.live f) (sym w.found-is) (subst (λ (v : Wide). M v _) (sym w.live-is)
          (mark_one c.args.grade hit c.args.live.now c.args.found.now c.loop-lane.live _ c.loop-lane.found lane c.loop-lane-test.true (sym tells ∙ w.if-is_one.true) w.set_value.ensures.each (w.set_value.ensures.wide c.loop-lane.invariant.wide) c.loop-lane.invariant))
      | else-is_one w ↦ subst (λ (f : List (Option Grade)). M c.if-is_one.live f) (sym w.found-is) (subst (λ (v : Wide). M v c.loop-lane.found) (sym w.live-is)
          (mark_none c.args.grade hit c.args.live.now c.args.found.now c.loop-lane.live c.loop-lane.found lane (sym tells ∙ w.if-is_one.false) c.loop-lane.invariant))
    ]
