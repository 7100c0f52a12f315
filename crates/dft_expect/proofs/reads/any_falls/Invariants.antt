-- The rest of the cells gives what all of them give.
use Rattle.std.proofs.Common.{◌≡◌, drop}
use Rattle.dft_expect.specs.Reads.{any_falls}
use Rattle.dft_expect.proofs.reads.any_falls.Given as goal

abbrev pub invariant-loop-read : goal.invariant-loop-read
invariant-loop-read l = any_falls l.reads ≡ any_falls (drop l.read-index l.reads)
