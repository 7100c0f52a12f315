-- One net more.
use Rattle.std.proofs.Common.{◌+◌, ◌∙◌, Bool, subst, take}
use Rattle.dft_netlist.specs.Orders.{numbers_of}
use Rattle.dft_seek.specs.Marks.{Raises}
use Rattle.dft_seek.proofs.MarkLemmas.{or_else, or_then, raises_all, raises_more, raises_none}
use Rattle.dft_seek.proofs.marking.raise_all.Goals as goal
use Rattle.dft_seek.proofs.marking.raise_all.Goals.{then-any, else-any}

pub loop-net-init : goal.loop-net-init
loop-net-init c = raises_none c.args.marked.now

pub loop-net-preserved : goal.loop-net-preserved
loop-net-preserved c =
    let P : Bool → Type 0 = λ b. Raises c.args.marked.now c.raise-fresh.new.marked (numbers_of (take (c.loop-net.net-index + 1) c.args.nets.now)) b in
    let more = raises_more c.args.nets.now c.loop-net.net-index (record { 0 = 0 }) c.args.marked.now c.loop-net.marked c.raise-fresh.new.marked c.loop-net.any c.raise-fresh.result c.loop-net-test.true c.loop-net.invariant c.raise-fresh.ensures in
    elim c.if-any.branch [
      | then-any w ↦ subst P (or_then c.loop-net.any c.raise-fresh.result c.if-any.any w.if-any.true (w.any-is ∙ w.if-any.true)) more
      | else-any w ↦ subst P (or_else c.loop-net.any c.raise-fresh.result c.if-any.any w.if-any.false w.any-is) more
    ]

pub returns : goal.returns
returns c = raises_all c.args.nets.now c.loop-net.net-index c.args.marked.now c.loop-net.marked c.loop-net.any c.loop-net-test.false c.loop-net.invariant
