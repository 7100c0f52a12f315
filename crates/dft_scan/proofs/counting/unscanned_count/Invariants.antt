use Rattle.std.proofs.Common.{◌≡◌, ◌≤◌, count_by, take}
use Rattle.dft_scan.specs.Reports.{is_unscanned}
use Rattle.dft_scan.proofs.counting.unscanned_count.Given as goal

abbrev pub invariant-loop-number : goal.invariant-loop-number
invariant-loop-number l = record {
  counted : l.found ≡ count_by is_unscanned (take l.number l.verdicts);
  few : l.found ≤ l.number;
}
