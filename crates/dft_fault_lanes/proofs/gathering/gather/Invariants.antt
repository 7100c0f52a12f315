-- The group so far, which has room.
use Rattle.std.proofs.Common.{◌≤◌, length}
use Rattle.dft_fault_lanes.specs.Gathers.{AreOf}
use Rattle.dft_fault_lanes.proofs.gathering.gather.Given as goal

abbrev pub invariant-loop-place : goal.invariant-loop-place
invariant-loop-place l = (length l.group.items ≤ 512) × AreOf l.faults l.places.items l.group.items
