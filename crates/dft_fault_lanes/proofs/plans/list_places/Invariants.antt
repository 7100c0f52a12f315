-- The cells before this one are listed that change and are not left out.
use Rattle.std.proofs.Common.{◌≡◌}
use Rattle.std.specs.Vec.{vec_capacity}
use Rattle.dft_fault_lanes.specs.Idle.{is_left}
use Rattle.dft_fault_lanes.proofs.MarkLemmas.{Placing}
use Rattle.dft_fault_lanes.proofs.plans.list_places.Given as goal

abbrev pub invariant-loop-place : goal.invariant-loop-place
invariant-loop-place l = Placing l.flops l.rising l.pulsed (is_left l.cells.layout l.moves l.flops) l.list.items l.place × (vec_capacity l.list ≡ vec_capacity l.initial.list)
