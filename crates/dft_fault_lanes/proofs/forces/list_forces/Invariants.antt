-- The ports of the cells before this one are listed.
use Rattle.std.proofs.Common.{◌≡◌}
use Rattle.std.specs.Vec.{vec_capacity}
use Rattle.dft_fault_lanes.proofs.PlanLemmas.{Forcing}
use Rattle.dft_fault_lanes.proofs.forces.list_forces.Given as goal

abbrev pub invariant-loop-flop : goal.invariant-loop-flop
invariant-loop-flop l = Forcing l.flops l.list.items l.flop-index × (vec_capacity l.list ≡ vec_capacity l.initial.list)
