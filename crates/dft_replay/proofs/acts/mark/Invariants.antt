use Rattle.std.proofs.Common.{◌≡◌, map, take}
use Rattle.dft_replay.specs.Rows.{is_pulse}
use Rattle.dft_replay.specs.Vectors.{act_at}
use Rattle.dft_replay.proofs.acts.mark.Given as goal

abbrev pub invariant-loop-place : goal.invariant-loop-place
invariant-loop-place l = take l.place l.pulsed ≡ map (λ signal. is_pulse (act_at l.acts signal)) (take l.place l.clocks)
