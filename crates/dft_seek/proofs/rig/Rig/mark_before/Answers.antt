-- The nets are marked, and then all from which walks lead to them.
use Rattle.std.proofs.Common.{List, ◌++◌, ◌||◌, subst}
use Rattle.dft_netlist.specs.declared.ids.NetId.{NetId}
use Rattle.dft_netlist.specs.Orders.{numbers_of}
use Rattle.dft_seek.specs.Marks.{IsDrawn, steps_at}
use Rattle.dft_seek.proofs.ConeLemmas.{before_are}
use Rattle.dft_seek.proofs.MarkLemmas.{raises_join}
use Rattle.dft_seek.proofs.rig.Rig.mark_before.Goals as goal

pub returns : goal.returns
returns c = λ f.
    (let r = c.args.self.now in
    let outs = numbers_of c.args.outputs.now in
    let pins = numbers_of c.args.pins.now in
    let last = c.raise_all-2.new.marked in
    let drawn = subst (λ (order : List NetId). IsDrawn (steps_at r.steps.items) (numbers_of order) last c.draw_all.new.marked) c.paths.ensures.order
    (subst (λ (steps : List (List NetId)). IsDrawn (steps_at steps) (numbers_of c.paths.result.order.now) last c.draw_all.new.marked) c.paths.ensures.steps c.draw_all.ensures) in
    let raised = raises_join c.args.marked.now c.raise_all.new.marked last outs pins c.raise_all.result c.raise_all-2.result c.raise_all.ensures c.raise_all-2.ensures in
    before_are r f (outs ++ pins) c.args.marked.now last c.draw_all.new.marked (c.raise_all.result || c.raise_all-2.result) c.requires.rig c.paths.ensures.circuit c.requires.rig.table c.requires.size c.requires.clear raised drawn)
