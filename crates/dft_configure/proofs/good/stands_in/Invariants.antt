-- The numbers from here on give what all of them give.
use Rattle.std.proofs.Common.{◌≡◌, ◌-◌}
use Rattle.std.specs.List.{list_any, range_with_len}
use Rattle.dft_base.specs.Solutions.{bit_at}
use Rattle.dft_equations.specs.LoadRows.{row_of}
use Rattle.dft_configure.specs.Good.{same_bits}
use Rattle.dft_configure.proofs.good.stands_in.Given as goal

abbrev pub invariant-loop-spot : goal.invariant-loop-spot
invariant-loop-spot l = list_any (λ spot. same_bits l.equations.columns (bit_at (row_of l.equations l.chain l.place)) (bit_at (row_of l.equations l.other spot))) (range_with_len l.spot (l.places - l.spot)) ≡ list_any (λ spot. same_bits l.equations.columns (bit_at (row_of l.equations l.chain l.place)) (bit_at (row_of l.equations l.other spot))) (range_with_len 0 (l.places))
