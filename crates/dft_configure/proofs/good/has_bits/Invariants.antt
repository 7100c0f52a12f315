-- The numbers from here on give what all of them give.
use Rattle.std.proofs.Common.{◌≡◌, ◌-◌}
use Rattle.std.specs.List.{list_any, range_with_len}
use Rattle.dft_base.specs.Packed.{packed_bit}
use Rattle.dft_configure.proofs.good.has_bits.Given as goal

abbrev pub invariant-loop-column : goal.invariant-loop-column
invariant-loop-column l = list_any (packed_bit l.row) (range_with_len l.column (l.columns - l.column)) ≡ list_any (packed_bit l.row) (range_with_len 0 (l.columns))
