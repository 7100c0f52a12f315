-- The bits of the columns before this one.
use Rattle.std.proofs.Common.{◌≡◌, map}
use Rattle.std.specs.List.{range_with_len}
use Rattle.dft_merge.specs.Fills.{bit_of_column}
use Rattle.dft_merge.proofs.fills.seeded.Given as goal

abbrev pub invariant-loop-column : goal.invariant-loop-column
invariant-loop-column l = l.bits.items ≡ map (bit_of_column l.words.items) (range_with_len 0 l.column)
