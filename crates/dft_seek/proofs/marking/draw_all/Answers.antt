-- One round more, until one changes nothing.
use Rattle.std.proofs.Common.{subst, Bool}
use Rattle.dft_netlist.specs.Orders.{numbers_of}
use Rattle.dft_seek.specs.Marks.{Draws, steps_at}
use Rattle.dft_seek.proofs.MarkLemmas.{no_more_draws, drawn_ends, drawn_round, drawn_starts}
use Rattle.dft_seek.proofs.marking.draw_all.Goals as goal

pub loop-round-init : goal.loop-round-init
loop-round-init c = drawn_starts (steps_at c.args.paths.now.steps.now) c.args.marked.now

pub loop-round-preserved : goal.loop-round-preserved
loop-round-preserved c =
    let p = c.args.paths.now in
    let P : Bool → Type 0 = λ b. Draws (steps_at p.steps.now) (numbers_of p.order.now) c.loop-round.marked c.draw.new.marked b in
    drawn_round (steps_at p.steps.now) (numbers_of p.order.now) c.args.marked.now c.loop-round.marked c.draw.new.marked c.loop-round._round c.loop-round.invariant (subst P c.if-not-draw.false c.draw.ensures)

pub returns-then-not-draw : goal.returns-then-not-draw
returns-then-not-draw c =
    let p = c.args.paths.now in
    let P : Bool → Type 0 = λ b. Draws (steps_at p.steps.now) (numbers_of p.order.now) c.loop-round.marked c.draw.new.marked b in
    drawn_ends (steps_at p.steps.now) (numbers_of p.order.now) c.args.marked.now c.loop-round.marked c.draw.new.marked c.loop-round._round c.loop-round.invariant (subst P c.if-not-draw.true c.draw.ensures)

pub returns : goal.returns
returns c = absurd (no_more_draws (steps_at c.args.paths.now.steps.now) c.args.marked.now c.loop-round.marked c.loop-round._round c.loop-round.invariant c.loop-round-test.false)
