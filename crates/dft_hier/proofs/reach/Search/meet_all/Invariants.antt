-- The rest of the modules gives what all of them give.
use Rattle.std.proofs.Common.{◌≡◌, drop, length}
use Rattle.dft_hier.specs.Searches.{found_all}
use Rattle.dft_hier.proofs.reach.Search.meet_all.Given as goal

abbrev pub invariant-loop-number : goal.invariant-loop-number
invariant-loop-number l = record {
  same : found_all l.self (drop l.number-index l.numbers) ≡ found_all l.initial.self l.numbers;
  count : length l.self.met ≡ length l.initial.self.met;
}
