-- The taps so far, and those of the rest.
use Rattle.std.proofs.Common.{◌≡◌, ◌++◌, drop, map}
use Rattle.dft_decompressor.specs.Rings.{tap_of}
use Rattle.dft_decompressor.proofs.tapping.taps.Given as goal

abbrev pub invariant-loop-exponent : goal.invariant-loop-exponent
invariant-loop-exponent l = l.taps.items ++ map (tap_of l.stages) (drop l.exponent-index l.exponents) ≡ map (tap_of l.stages) l.exponents
