-- The nets so far that come before.
use Rattle.std.proofs.Common.{◌≡◌, ◌≤◌, count_by}
use Rattle.std.specs.List.{range_with_len}
use Rattle.dft_configure.specs.Roots.{comes_before}
use Rattle.dft_configure.specs.Found.{count_at}
use Rattle.dft_configure.proofs.choosing.rank.Given as goal

abbrev pub invariant-loop-other : goal.invariant-loop-other
invariant-loop-other l = record {
  counted : l.rank ≡ count_by (λ other. comes_before (count_at l.counts) other l.net) (range_with_len 0 l.other);
  few : l.rank ≤ l.other;
}
