use Rattle.std.proofs.Common.{◌≡◌, ◌≤◌, count_by, take}
use Rattle.dft_rules.specs.Refusals.{is_scanned}
use Rattle.dft_scan.proofs.counting.scanned_count.Given as goal

abbrev pub invariant-loop-number : goal.invariant-loop-number
invariant-loop-number l = record {
  counted : l.found ≡ count_by is_scanned (take l.number l.verdicts);
  few : l.found ≤ l.number;
}
