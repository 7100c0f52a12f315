-- The numbers from here on give what all of them give.
use Rattle.std.proofs.Common.{◌≡◌, ◌-◌}
use Rattle.std.specs.List.{list_all, range_with_len}
use Rattle.std.specs.Prelude.{not}
use Rattle.dft_base.specs.Packed.{packed_bit}
use Rattle.dft_base.specs.Solutions.{xor}
use Rattle.dft_configure.proofs.good.same_bits.Given as goal

abbrev pub invariant-loop-column : goal.invariant-loop-column
invariant-loop-column l = list_all (λ column. not (xor (packed_bit l.row column) (packed_bit l.other column))) (range_with_len l.column (l.columns - l.column)) ≡ list_all (λ column. not (xor (packed_bit l.row column) (packed_bit l.other column))) (range_with_len 0 (l.columns))
