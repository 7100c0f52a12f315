use Rattle.std.proofs.Common.{◌<◌, ◌≡◌, length, get_or}
use Rattle.dft_hier.proofs.NumberLemmas.{no_children, children_next, children_found, children_known}
use Rattle.dft_hier.proofs.children.children_in.Goals as goal

pub loop-item-init : goal.loop-item-init
loop-item-init c = rw c.new-children.ensures (no_children c.args.numbers.now c.args.owner.now.items)

pub loop-item-preserved : goal.loop-item-preserved
loop-item-preserved c =
    let items = c.args.owner.now.items in
    let less : c.loop-item.item-index < length items = rw (← c.items-item-items.ensures) c.loop-item-test.true in
    let is : c.item-item.result ≡ get_or items c.loop-item.item-index c.item-item.result = rw c.items-item-items.ensures at c.item-item.is in
    children_next c.args.numbers.now items c.item-item.result c.loop-item.item-index c.loop-item.children c.add_child.new.children less is c.in_ok-add_child.ensures.ok c.in_ok-add_child.ensures.known c.loop-item.invariant

pub returns-clause-ok : goal.returns-clause-ok
returns-clause-ok c = children_found c.args.numbers.now c.args.owner.now.items c.loop-item.item-index c.loop-item.children (rw (← c.items-item-items.ensures) c.loop-item-test.false) c.loop-item.invariant

pub returns-clause-known : goal.returns-clause-known
returns-clause-known c = children_known c.args.numbers.now c.args.owner.now.items c.loop-item.item-index c.loop-item.children (rw (← c.items-item-items.ensures) c.loop-item-test.false) c.loop-item.invariant
