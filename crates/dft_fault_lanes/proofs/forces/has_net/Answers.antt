-- It is the net at this place.
use Rattle.std.proofs.Common.{ℕ, subst}
use Rattle.dft_netlist.specs.Orders.{Has, numbers_of}
use Rattle.dft_fault_lanes.proofs.PlanLemmas.{numbers_read}
use Rattle.dft_fault_lanes.proofs.forces.has_net.Goals as goal

pub returns-then-same_net : goal.returns-then-same_net
returns-then-same_net c = λ up. (let F : ℕ → Type 0 = λ k. Has (numbers_of c.args.nets.now) k in subst F (c.same_net.ensures c.if-same_net.true) (numbers_read c.args.nets.now c.loop-other.other-index _ c.loop-other-test.true))
