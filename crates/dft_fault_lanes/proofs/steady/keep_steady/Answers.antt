-- One cell more reads what is still.
use Rattle.std.proofs.Common.{ℕ, ◌+◌, ◌<◌, sym, subst, length}
use Rattle.std.proofs.lemmas.List.{get_or_default}
use Rattle.dft_lanes.specs.declared.wide.Wide.{Wide}
use Rattle.dft_fault_lanes.proofs.SteadyLemmas.{Steady, steady_more, steady_rests}
use Rattle.dft_fault_lanes.proofs.steady.keep_steady.Goals.{then-changes, else-changes}
use Rattle.dft_fault_lanes.proofs.steady.keep_steady.Goals as goal

pub loop-flop-preserved : goal.loop-flop-preserved
loop-flop-preserved c =
    let flops = c.args.flops.now in
    let place : ℕ = c.loop-flop.flop-index in
    let less : place < length flops = c.loop-flop-test.true in
    let P : Wide → Type 0 = λ w. Steady flops c.args.rising c.args.pulsed.now c.args.shown.now c.args.wides.now c.args.live.now w (place + 1) in
    elim c.if-changes.branch [
      | then-changes w ↦ subst P (sym w.live-is) (steady_more flops c.args.rising c.args.pulsed.now c.args.shown.now c.args.wides.now c.args.live.now c.loop-flop.live _ place _ less (get_or_default flops place _ _ less)
          c.loop-flop.invariant w.cell_steady.ensures.wide w.cell_steady.ensures.live w.cell_steady.ensures.reads)
      | else-changes w ↦ subst P (sym w.live-is) (steady_rests flops c.args.rising c.args.pulsed.now c.args.shown.now c.args.wides.now c.args.live.now c.loop-flop.live place _ _ less (get_or_default flops place _ _ less)
          c.changes.ensures w.if-changes.false c.loop-flop.invariant)
    ]
