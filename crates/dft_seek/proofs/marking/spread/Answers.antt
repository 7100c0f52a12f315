-- One net more.
use Rattle.std.proofs.Common.{◌+◌, ◌∙◌, Bool, subst, take}
use Rattle.dft_netlist.specs.Orders.{numbers_of}
use Rattle.dft_seek.specs.Marks.{Spreads, steps_at}
use Rattle.dft_seek.proofs.MarkLemmas.{or_else, or_then, spreads_all, spreads_more, spreads_none}
use Rattle.dft_seek.proofs.marking.spread.Goals as goal
use Rattle.dft_seek.proofs.marking.spread.Goals.{then-any, else-any}

pub loop-net-init : goal.loop-net-init
loop-net-init c = spreads_none (steps_at c.args.paths.now.steps.now) c.args.marked.now

pub loop-net-preserved : goal.loop-net-preserved
loop-net-preserved c =
    let p = c.args.paths.now in
    let P : Bool → Type 0 = λ b. Spreads (steps_at p.steps.now) (numbers_of (take (c.loop-net.net-index + 1) p.order.now)) c.args.marked.now c.spread_to-fresh.new.marked b in
    let more = spreads_more (steps_at p.steps.now) p.order.now c.loop-net.net-index (record { 0 = 0 }) c.args.marked.now c.loop-net.marked c.spread_to-fresh.new.marked c.loop-net.any c.spread_to-fresh.result c.loop-net-test.true c.loop-net.invariant
    c.spread_to-fresh.ensures in
    elim c.if-any.branch [
      | then-any w ↦ subst P (or_then c.loop-net.any c.spread_to-fresh.result c.if-any.any w.if-any.true (w.any-is ∙ w.if-any.true)) more
      | else-any w ↦ subst P (or_else c.loop-net.any c.spread_to-fresh.result c.if-any.any w.if-any.false w.any-is) more
    ]

pub returns : goal.returns
returns c = spreads_all (steps_at c.args.paths.now.steps.now) c.args.paths.now.order.now c.loop-net.net-index c.args.marked.now c.loop-net.marked c.loop-net.any c.loop-net-test.false c.loop-net.invariant
