-- The stamp so far, carried on over the rest.
use Rattle.std.proofs.Common.{◌≡◌, drop}
use Rattle.dft_decompressor.specs.Stamps.{stamp_from, stamp_of}
use Rattle.dft_decompressor.proofs.stamps.stamp_of.Given as goal

abbrev pub invariant-loop-bit : goal.invariant-loop-bit
invariant-loop-bit l = stamp_from l.stamp (drop l.bit-index l.set) ≡ stamp_of l.set
