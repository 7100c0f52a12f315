-- One fault more.
use Rattle.std.proofs.Common.{ℕ, List, Option, ◌+◌, ◌<◌, ◌∙◌, sym, subst, length, arith}
use Rattle.std.proofs.lemmas.Option.{slice_get-get_or}
use Rattle.dft_grade.specs.declared.found.Grade.{Grade}
use Rattle.dft_fault_lanes.proofs.TellingLemmas.{TakingBack, back_more, back_none}
use Rattle.dft_fault_lanes.proofs.telling.take_back.Goals.{then-flag_at, else-flag_at}
use Rattle.dft_fault_lanes.proofs.telling.take_back.Goals as goal

pub loop-place-preserved : goal.loop-place-preserved
loop-place-preserved c =
    let place : ℕ = c.loop-place.place in
    let old : List (Option Grade) = c.args.found.now in
    let now : List (Option Grade) = c.loop-place.found in
    let live : place < length now = omega (arith, c.loop-place-test.true, c.requires, c.loop-place.invariant.size) in
    let T : List (Option Grade) → Type 0 = λ l. TakingBack c.args.faults.now c.args.control.now old l (place + 1) in
    elim c.if-flag_at.branch [
      | then-flag_at w ↦ subst T (sym w.found-is) (back_more c.args.faults.now c.args.control.now old now place live c.loop-place.invariant)
      | else-flag_at w ↦ subst T (sym w.found-is) (back_none c.args.faults.now c.args.control.now old now place _ (slice_get-get_or c.args.faults.now place _ c.loop-place-test.true) (sym c.flag_at.ensures ∙ w.if-flag_at.false) c.loop-place.invariant)
    ]
