-- The starts so far, and the next one.
use Rattle.std.proofs.Common.{◌≡◌, ℕ, ◌<◌, length, get_or}
use Rattle.dft_expect.proofs.UnloadLemmas.{before}
use Rattle.dft_expect.proofs.unloading.starts.Given as goal

abbrev pub invariant-loop-chain : goal.invariant-loop-chain
invariant-loop-chain l = record {
  count : length l.starts.items ≡ l.chain;
  each : (k : ℕ) → k < l.chain → get_or l.starts.items k 0 ≡ before l.chains.chains k;
  next : l.start ≡ before l.chains.chains l.chain;
}
