-- What is left of the lists is the same where the lists are.
use Rattle.std.proofs.Common.{◌≡◌, drop, length}
use Rattle.dft_certify.specs.Certifying.{same_variables}
use Rattle.dft_certify.proofs.rows.same_variables.Given as goal

abbrev pub invariant-loop-place : goal.invariant-loop-place
invariant-loop-place l = (same_variables l.a l.b ≡ same_variables (drop l.place l.a) (drop l.place l.b)) × (length l.a ≡ length l.b)
