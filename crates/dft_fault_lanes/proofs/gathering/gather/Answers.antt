-- One fault more, or none.
use Rattle.std.proofs.Common.{◌<◌, ◌∙◌, ℕ, List, Vec, Global, ap, length, arith}
use Rattle.std.proofs.lemmas.Option.{slice_get-get_or}
use Rattle.dft_faults.specs.declared.fault.Fault.{Fault}
use Rattle.dft_fault_lanes.proofs.GatherLemmas.{gather_more, gather_same}
use Rattle.dft_fault_lanes.proofs.gathering.gather.Goals.{then-is_none+then-not-flag_at+in_ok-push+in_ok-push-2, else-is_none}
use Rattle.dft_fault_lanes.proofs.gathering.gather.Goals as goal

pub loop-place-preserved : goal.loop-place-preserved
loop-place-preserved c =
    let all : List Fault = c.args.faults.now in
    let place : ℕ = c.loop-place.place in
    let places : List ℕ = c.loop-place.places.items in
    let group : List Fault = c.loop-place.group.items in
    let less : place < length all = omega (arith, c.loop-place-test.true) in
    let room : length group < 512 = omega (arith, c.if-len-ge512.false, c.len.ensures) in
    elim c.if-is_none.branch [
      | then-is_none+then-not-flag_at+in_ok-push+in_ok-push-2 w ↦ gather_more all places c.if-is_none.places.items group c.if-is_none.group.items place _ (slice_get-get_or all place _ less) room
          (ap (λ (v : Vec ℕ Global). v.items) w.places-is ∙ w.in_ok-push.ensures.items) (ap (λ (v : Vec Fault Global). v.items) w.group-is ∙ w.in_ok-push-2.ensures.items) c.loop-place.invariant.1
      | else-is_none w ↦ gather_same all places c.if-is_none.places.items group c.if-is_none.group.items (ap (λ (v : Vec ℕ Global). v.items) w.places-is) (ap (λ (v : Vec Fault Global). v.items) w.group-is) c.loop-place.invariant
    ]
