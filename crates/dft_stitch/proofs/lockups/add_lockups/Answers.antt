use Rattle.std.proofs.Common.{◌-◌, ◌+◌, ◌++◌, ◌∙◌, List, Option, ap, arith, length}
use Rattle.std.specs.List.{filter_map, range_with_len}
use Rattle.dft_stitch.specs.declared.places.LockupPlace.{LockupPlace}
use Rattle.dft_stitch.specs.Chains.{listed, lockup_after}
use Rattle.dft_stitch.proofs.RangeLemmas.{ended, filter_on, filter_over, filter_start, grown}
use Rattle.dft_stitch.proofs.lockups.add_lockups.Goals as goal

pub lockup_after-requires : goal.lockup_after-requires
lockup_after-requires c = omega arith

pub loop-place-init : goal.loop-place-init
loop-place-init c = ap (λ (xs : List LockupPlace). c.args.lockups.now.items ++ xs) (filter_start (lockup_after c.args.verdicts.now c.args.chain c.args.cells.now) (length c.args.cells.now))

pub loop-place-preserved : goal.loop-place-preserved
loop-place-preserved c =
    let h = lockup_after c.args.verdicts.now c.args.chain c.args.cells.now in
    let k = c.loop-place.place in
    let total = length c.args.cells.now in
    let old = c.loop-place.lockups.items in
    grown old _ (listed (h k)) (filter_map h (range_with_len k (total - k))) (filter_map h (range_with_len (k + 1) (total - (k + 1)))) (c.args.lockups.now.items ++ filter_map h (range_with_len 0 total))
    (c.in_ok-add.ensures ∙ ap (λ (o : Option LockupPlace). old ++ listed o) c.lockup_after.ensures) (filter_on h k total c.loop-place-test.true) c.loop-place.invariant

pub returns : goal.returns
returns c =
    let h = lockup_after c.args.verdicts.now c.args.chain c.args.cells.now in
    let k = c.loop-place.place in
    let total = length c.args.cells.now in
    ended c.loop-place.lockups.items (filter_map h (range_with_len k (total - k))) (c.args.lockups.now.items ++ filter_map h (range_with_len 0 total)) (filter_over h k total c.loop-place-test.false) c.loop-place.invariant
