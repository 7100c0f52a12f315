-- One cell more reads what is still, if it takes a value.
use Rattle.std.proofs.Common.{ℕ, true, ◌<◌, ◌∙◌, ap, subst, length, arith}
use Rattle.dft_behavior.specs.Logic.{Cell}
use Rattle.dft_takings.specs.Needs.{HasAll}
use Rattle.dft_takings.specs.Shows.{still_needs}
use Rattle.dft_takings.specs.ShownTables.{shown_at}
use Rattle.dft_logic.proofs.Writings.{cell_read}
use Rattle.dft_fault_laws.specs.Rounds.{every}
use Rattle.dft_fault_lanes.specs.Lanes.{flop_at, is_changed}
use Rattle.dft_fault_lanes.specs.Plans.{cell_needs}
use Rattle.dft_fault_lanes.proofs.MarkLemmas.{shown_more}
use Rattle.dft_fault_lanes.proofs.steady.are_steady.Goals as goal

pub loop-flop-preserved : goal.loop-flop-preserved
loop-flop-preserved c =
    let flops = c.args.flops.now in
    let place : ℕ = c.loop-flop.flop-index in
    let less : place < length flops = c.loop-flop-test.true in
    let P : Cell → Type 0 = λ k. HasAll (still_needs every (shown_at c.args.shown.now) k.domain) (cell_needs c.args.steer k) in
    let cell = cell_read flops place _ less in
    shown_more (λ i. is_changed (flop_at flops i) true c.args.pulsed.now) (λ i. P (flop_at flops i)) place
    (λ up. subst P cell (c.rises_steady.ensures c.if-not-rises_steady.false (ap (λ (k : Cell). is_changed k true c.args.pulsed.now) cell ∙ up))) c.loop-flop.invariant

pub returns : goal.returns
returns c = λ up cell less is. c.loop-flop.invariant cell (omega (arith, less, c.loop-flop-test.false)) is
