-- The stages from here on give what all of them give.
use Rattle.std.proofs.Common.{◌≡◌, drop}
use Rattle.std.specs.Prelude.{find}
use Rattle.dft_decompressor.specs.Rings.{around, is_free}
use Rattle.dft_decompressor.proofs.injecting.first_free.Given as goal

abbrev pub invariant-loop-distance : goal.invariant-loop-distance
invariant-loop-distance l = find (is_free l.taps l.before) (drop l.distance (around l.stages l.start)) ≡ find (is_free l.taps l.before) (around l.stages l.start)
