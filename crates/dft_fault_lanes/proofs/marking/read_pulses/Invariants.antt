-- The signals before this one are as in the row.
use Rattle.std.proofs.Common.{◌≡◌, map, take}
use Rattle.dft_replay.specs.Rows.{is_pulse}
use Rattle.dft_fault_lanes.proofs.marking.read_pulses.Given as goal

abbrev pub invariant-loop-place : goal.invariant-loop-place
invariant-loop-place l = take l.place l.row ≡ map is_pulse (take l.place l.acts)
