-- The patterns so far, with their loads.
use Rattle.std.proofs.Common.{◌≡◌, ℕ, length, slice_get, Some}
use Rattle.dft_expect.specs.declared.pattern.Pattern.{Pattern}
use Rattle.dft_encode.specs.Finding.{IsLoaded}
use Rattle.dft_encode.proofs.captures.loaded.Given as goal

abbrev pub invariant-loop-k : goal.invariant-loop-k
invariant-loop-k l = record {
  count : length l.patterns.items ≡ l.k;
  each : (j : ℕ) (p : Pattern) → slice_get l.patterns.items j ≡ Some p → IsLoaded l.merged l.first l.loads j p;
}
