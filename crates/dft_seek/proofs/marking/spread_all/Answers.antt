-- One round more, until one changes nothing.
use Rattle.std.proofs.Common.{subst, Bool}
use Rattle.dft_netlist.specs.Orders.{numbers_of}
use Rattle.dft_seek.specs.Marks.{Spreads, steps_at}
use Rattle.dft_seek.proofs.MarkLemmas.{no_more_rounds, spread_ends, spread_round, spread_starts}
use Rattle.dft_seek.proofs.marking.spread_all.Goals as goal

pub loop-round-init : goal.loop-round-init
loop-round-init c = spread_starts (steps_at c.args.paths.now.steps.now) c.args.marked.now

pub loop-round-preserved : goal.loop-round-preserved
loop-round-preserved c =
    let p = c.args.paths.now in
    let P : Bool → Type 0 = λ b. Spreads (steps_at p.steps.now) (numbers_of p.order.now) c.loop-round.marked c.spread.new.marked b in
    spread_round (steps_at p.steps.now) (numbers_of p.order.now) c.args.marked.now c.loop-round.marked c.spread.new.marked c.loop-round._round c.loop-round.invariant (subst P c.if-not-spread.false c.spread.ensures)

pub returns-then-not-spread : goal.returns-then-not-spread
returns-then-not-spread c =
    let p = c.args.paths.now in
    let P : Bool → Type 0 = λ b. Spreads (steps_at p.steps.now) (numbers_of p.order.now) c.loop-round.marked c.spread.new.marked b in
    spread_ends (steps_at p.steps.now) (numbers_of p.order.now) c.args.marked.now c.loop-round.marked c.spread.new.marked c.loop-round._round c.loop-round.invariant (subst P c.if-not-spread.true c.spread.ensures)

pub returns : goal.returns
returns c = absurd (no_more_rounds (steps_at c.args.paths.now.steps.now) c.args.marked.now c.loop-round.marked c.loop-round._round c.loop-round.invariant c.loop-round-test.false)
