use Rattle.std.proofs.Common.{◌≡◌, ◌∷◌, [], length, length-append, ap, arith, add-one, append_assoc}
use Rattle.std.specs.Vec.Iter.{into_iter_items}
use Rattle.dft_netlist.proofs.NewNames.{first_new, others_new}
use Rattle.dft_netlist.proofs.name_table.NameTable.insert_nets.Goals as goal

pub insert_net-requires-clause-fresh : goal.insert_net-requires-clause-fresh
insert_net-requires-clause-fresh c =
    let steps : into_iter_items c.loop-name.name-iterator ≡ c.in-Some.name ∷ into_iter_items c.next.new.self = c.in-Some.ensures.steps.0 in
    first_new c.loop-name.self.entries c.in-Some.name (into_iter_items c.next.new.self) (rw steps at c.loop-name.invariant.new)

pub loop-name-preserved : goal.loop-name-preserved
loop-name-preserved c =
    let at = c.loop-name in
    let q = c.in-Some.name in
    let steps : into_iter_items at.name-iterator ≡ q ∷ into_iter_items c.next.new.self = c.in-Some.ensures.steps.0 in
    let fewer = ap length steps in
    let gone = c.in-Some.ensures.steps.1 in
    let longer = ap length c.insert_net.ensures.nets in
    let one = length-append at.self.nets (q ∷ []) in
    record {
      entries = rw (c.insert_net.ensures.added, c.insert_net.ensures.nets, length-append, add-one, append_assoc) (rw steps at at.invariant.entries);
      nets = rw (c.insert_net.ensures.nets, append_assoc) (rw steps at at.invariant.nets);
      new = rw c.insert_net.ensures.added (others_new at.self.entries q (into_iter_items c.next.new.self) _ (rw steps at at.invariant.new));
      room = (let was = at.invariant.room in let left = c.insert_net.ensures.room in omega arith);
      few = (let was = at.invariant.few in omega arith);
      counted = (let was = at.invariant.counted in omega arith);
    }
