-- The numbers from here on give what all of them give; the stamps of the cells before were seen.
use Rattle.std.proofs.Common.{◌≡◌, ◌-◌, length}
use Rattle.std.specs.BTreeSet.{contains}
use Rattle.std.specs.List.{list_all, range_with_len}
use Rattle.std.specs.Ordering.{nat_cmp}
use Rattle.dft_equations.specs.LoadRows.{rows_of}
use Rattle.dft_configure.specs.Good.{is_good_cell}
use Rattle.dft_configure.specs.Seen.{AreSeen}
use Rattle.dft_configure.proofs.good.is_good_chain.Given as goal

abbrev pub invariant-loop-place : goal.invariant-loop-place
invariant-loop-place l = record {
  rest : list_all (is_good_cell l.equations l.chain) (range_with_len l.place (length (rows_of l.equations l.chain) - l.place)) ≡ list_all (is_good_cell l.equations l.chain) (range_with_len 0 (length (rows_of l.equations l.chain)));
  seen : AreSeen l.equations l.chain l.place (contains nat_cmp l.seen);
}
