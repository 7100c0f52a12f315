-- The stages from here on are the same where all are.
use Rattle.std.proofs.Common.{◌≡◌, drop}
use Rattle.dft_decompressor.specs.StageSets.{same_set}
use Rattle.dft_decompressor.proofs.stamps.same_set.Given as goal

abbrev pub invariant-loop-place : goal.invariant-loop-place
invariant-loop-place l = same_set (drop l.place l.a) (drop l.place l.b) ≡ same_set l.a l.b
