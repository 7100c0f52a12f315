-- It is there, or it is added at the end.
use Rattle.std.proofs.Common.{◌≡◌, ◌∙◌, ◌+◌, ap, arith, length, length-append}
use Rattle.dft_fault_lanes.proofs.PlanLemmas.{added_left, added_last}
use Rattle.dft_fault_lanes.proofs.forces.add_net.Goals as goal

pub returns-then-not-has_net-clause-size : goal.returns-then-not-has_net-clause-size
returns-then-not-has_net-clause-size c =
    let size : length c.push_reserved.new.self.items ≡ length c.args.list.now.items + 1 = ap length c.push_reserved.ensures.items ∙ length-append c.args.list.now.items _ in
    omega (arith, size)

pub returns-then-not-has_net-clause-kept : goal.returns-then-not-has_net-clause-kept
returns-then-not-has_net-clause-kept c = λ k h. added_left c.args.list.now.items c.push_reserved.new.self.items c.args.net k c.push_reserved.ensures.items h

pub returns-then-not-has_net-clause-here : goal.returns-then-not-has_net-clause-here
returns-then-not-has_net-clause-here c = added_last c.args.list.now.items c.push_reserved.new.self.items c.args.net c.push_reserved.ensures.items

pub returns-else-not-has_net-clause-here : goal.returns-else-not-has_net-clause-here
returns-else-not-has_net-clause-here c = (rw c.deref.ensures.value at c.has_net.ensures) c.if-not-has_net.false
