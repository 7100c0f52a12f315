-- The net is marked, and then all to which walks lead from it.
use Rattle.std.proofs.Common.{List, subst}
use Rattle.dft_netlist.specs.declared.ids.NetId.{NetId}
use Rattle.dft_netlist.specs.Orders.{numbers_of}
use Rattle.dft_seek.specs.Marks.{IsSpread, steps_at}
use Rattle.dft_seek.proofs.ConeLemmas.{behind_are}
use Rattle.dft_seek.proofs.rig.Rig.mark_behind.Goals as goal

pub returns : goal.returns
returns c = λ f.
    (let r = c.args.self.now in
    let spread = subst (λ (order : List NetId). IsSpread (steps_at r.steps.items) (numbers_of order) c.raise_all.new.marked c.spread_all.new.marked) c.paths.ensures.order
    (subst (λ (steps : List (List NetId)). IsSpread (steps_at steps) (numbers_of c.paths.result.order.now) c.raise_all.new.marked c.spread_all.new.marked) c.paths.ensures.steps c.spread_all.ensures) in
    behind_are r f c.args.net.0 c.args.marked.now c.raise_all.new.marked c.spread_all.new.marked c.raise_all.result c.requires.rig c.paths.ensures.circuit c.requires.rig.table c.requires.size c.requires.clear c.requires.live c.raise_all.ensures spread)
