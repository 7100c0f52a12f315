-- The numbers from here on give what all of them give.
use Rattle.std.proofs.Common.{◌≡◌, ◌-◌, length}
use Rattle.std.specs.List.{list_any, range_with_len}
use Rattle.dft_equations.specs.LoadRows.{row_of, rows_of}
use Rattle.dft_configure.specs.Good.{stands_in}
use Rattle.dft_configure.proofs.good.stands_above.Given as goal

abbrev pub invariant-loop-other : goal.invariant-loop-other
invariant-loop-other l = list_any (λ other. stands_in l.equations (row_of l.equations l.chain l.place) other (length (rows_of l.equations other))) (range_with_len l.other (l.chain - l.other)) ≡ list_any (λ other. stands_in l.equations (row_of l.equations l.chain l.place) other (length (rows_of l.equations other))) (range_with_len 0 (l.chain))
