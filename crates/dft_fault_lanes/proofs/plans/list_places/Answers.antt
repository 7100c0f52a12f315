-- One cell more is listed, if it changes and is not left out.
use Rattle.std.proofs.Common.{ℕ, Bool, ◌<◌, ◌≡◌, ◌∙◌, ap, length, length-append}
use Rattle.std.proofs.lemmas.List.{get_or_default}
use Rattle.dft_fault_lanes.specs.Idle.{is_left}
use Rattle.dft_fault_lanes.proofs.IdleLemmas.{left_tells}
use Rattle.dft_fault_lanes.proofs.MarkLemmas.{placing_more, placing_rests, placing_ends}
use Rattle.dft_fault_lanes.proofs.plans.list_places.Goals.{then-is_taker, else-is_taker}
use Rattle.dft_fault_lanes.proofs.plans.list_places.Goals as goal

pub loop-place-preserved : goal.loop-place-preserved
loop-place-preserved c =
    let flops = c.args.flops.now in
    let place : ℕ = c.loop-place.place in
    let less : place < length flops = c.loop-place-test.true in
    let left : ℕ → Bool = is_left c.args.cells.now.layout c.args.moves.now c.args.flops.now in
    let tells : c.is_left-left.result ≡ left place = left_tells c.args.cells.now.layout c.args.moves.now flops place _ _ c.is_left-left.result less (get_or_default flops place _ _ less) c.place.ensures.at c.is_left-left.ensures in
    elim c.if-is_taker.branch [
      | then-is_taker w ↦ rw w.list-is (
        placing_more flops c.args.rising c.args.pulsed.now left c.loop-place.list.items _ place _ c.is_left-left.result less (get_or_default flops place _ _ less) tells (c.is_taker.ensures.up w.if-is_taker.true) w.push_reserved.ensures.items
            (ap length w.push_reserved.ensures.items ∙ length-append c.loop-place.list.items _) c.loop-place.invariant.0,
        w.push_reserved.ensures.capacity ∙ c.loop-place.invariant.1,
      )
      | else-is_taker w ↦ rw w.list-is (
        placing_rests flops c.args.rising c.args.pulsed.now left c.loop-place.list.items place _ c.is_left-left.result less (get_or_default flops place _ _ less) tells (c.is_taker.ensures.down w.if-is_taker.false) c.loop-place.invariant.0,
        c.loop-place.invariant.1,
      )
    ]

pub returns-clause-places : goal.returns-clause-places
returns-clause-places c =
    placing_ends c.args.flops.now c.args.rising c.args.pulsed.now (is_left c.args.cells.now.layout c.args.moves.now c.args.flops.now) c.loop-place.list.items c.loop-place.place c.loop-place-test.false c.loop-place.auto.place-end c.loop-place.invariant.0
