-- One entry more is flagged.
use Rattle.std.proofs.Common.{ℕ, ◌<◌, length, get_or, arith}
use Rattle.std.proofs.lemmas.Option.{slice_get-get_or}
use Rattle.dft_cycle.proofs.MachineLemmas.{mark_up, mark_down}
use Rattle.dft_cycle.proofs.machine.mark.Goals as goal
use Rattle.dft_cycle.proofs.machine.mark.Goals.{then-up, else-up}

pub loop-place-preserved : goal.loop-place-preserved
loop-place-preserved c = λ e.
    (let place : ℕ = c.loop-place.place in
    let less : place < length c.args.pulsed.now = c.loop-place-test.true in
    let here : place < length c.args.clocks.now = omega (arith, c.requires.entries) in
    let clock = c.requires.live place _ (slice_get-get_or c.args.clocks.now place (record { 0 = 0 }) here) in
    let live : (get_or c.args.clocks.now place (record { 0 = 0 })).0 < length c.loop-place.flags = omega (arith, clock) in
    elim c.if-up.branch [
      | then-up w ↦ rw w.flags-is (mark_up c.args.clocks.now c.args.pulsed.now c.loop-place.flags place e _ here less w.if-up.true live (c.loop-place.invariant e))
      | else-up w ↦ rw w.flags-is (mark_down c.args.clocks.now c.args.pulsed.now c.loop-place.flags place e _ here less w.if-up.false (c.loop-place.invariant e))
    ])
