-- The ports so far are counted.
use Rattle.std.proofs.Common.{◌≡◌, ◌<◌, ◌≤◌, ℕ, length, take}
use Rattle.dft_configure.specs.Roots.{uses}
use Rattle.dft_configure.specs.Found.{count_at, numbers_of}
use Rattle.dft_configure.proofs.choosing.counts_of.Given as goal

abbrev pub invariant-loop-port : goal.invariant-loop-port
invariant-loop-port l = record {
  size : length l.counts.items ≡ l.nets;
  each : (net : ℕ) → net < l.nets → count_at l.counts.items net ≡ uses (numbers_of (take l.port-index l.ports)) net;
  few : (net : ℕ) → count_at l.counts.items net ≤ l.port-index;
}
