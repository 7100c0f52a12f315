-- What is left from here on gives the bit where what was left at first does.
use Rattle.std.proofs.Common.{◌≡◌, drop}
use Rattle.dft_certify.specs.Certifying.{is_care}
use Rattle.dft_certify.proofs.sums.care_from.Given as goal

abbrev pub invariant-loop-place : goal.invariant-loop-place
invariant-loop-place l = is_care (drop l.place l.cells) l.cell l.bit ≡ is_care (drop l.from l.cells) l.cell l.bit
