-- Where cells hold values, they have those after the rise.
use Rattle.std.proofs.Common.{arith}
use Rattle.dft_logic.specs.Values.{value_at}
use Rattle.dft_seek.specs.Nodes.{risen_at}
use Rattle.dft_seek.proofs.EvaluateLemmas.{held_live, settled_cells}
use Rattle.dft_seek.proofs.rig.Rig.settle_after.Goals as goal

pub rise-requires : goal.rise-requires
rise-requires c = omega (arith, c.requires.risen, c.requires.rig.few)

pub returns-clause-given : goal.returns-clause-given
returns-clause-given c =
    let r = c.args.self.now in
    settled_cells r c.args.cone.now.needed.items c.args.stuck (value_at c.args.ports.now) (value_at c.rise.new.risen) (risen_at r c.args.cells.now c.args.first.now) c.settle.new.table.values.items
    (λ k holds. c.rise.ensures.each k (let live = held_live r k c.requires.rig holds in omega (arith, live, c.requires.risen))) c.settle.ensures.given
