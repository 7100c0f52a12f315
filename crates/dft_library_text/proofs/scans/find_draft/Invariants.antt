-- Each cell before the two bounds comes before the name, and each one behind them comes after it.
use Rattle.std.proofs.Common.{◌≤◌, ◌-◌, length}
use Rattle.dft_library_text.proofs.Halving.{AllBefore, AllAfter}
use Rattle.dft_library_text.proofs.scans.find_draft.Given as goal

abbrev pub invariant-loop-low : goal.invariant-loop-low
invariant-loop-low l = record {
  order : l.low ≤ l.high;
  within : l.high ≤ length l.drafts;
  before : AllBefore l.drafts l.name l.low;
  after : AllAfter l.drafts l.name l.high;
}

abbrev pub decreases-loop-low : goal.decreases-loop-low
decreases-loop-low l = l.high - l.low
