-- The stamp of the columns so far.
use Rattle.std.proofs.Common.{◌≡◌}
use Rattle.dft_base.specs.Packed.{packed_bit}
use Rattle.dft_configure.specs.Seen.{stamp_upto}
use Rattle.dft_configure.proofs.good.stamp_of.Given as goal

abbrev pub invariant-loop-column : goal.invariant-loop-column
invariant-loop-column l = l.stamp ≡ stamp_upto l.column (packed_bit l.row)
