use Rattle.std.proofs.Common.{◌≡◌, ◌≤◌, count_by, take}
use Rattle.dft_rules.specs.Refusals.{is_scanned}
use Rattle.dft_rules.proofs.checks.scanned_count.Given as goal

abbrev pub invariant-loop-verdict : goal.invariant-loop-verdict
invariant-loop-verdict l = record {
  counted : l.found ≡ count_by is_scanned (take l.verdict-index l.verdicts);
  few : l.found ≤ l.verdict-index;
}
