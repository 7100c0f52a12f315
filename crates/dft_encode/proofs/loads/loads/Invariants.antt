-- The loads so far.
use Rattle.std.proofs.Common.{◌≡◌, length}
use Rattle.dft_encode.specs.Finding.{AreLoads}
use Rattle.dft_encode.proofs.loads.loads.Given as goal

abbrev pub invariant-loop-k : goal.invariant-loop-k
invariant-loop-k l = record { count : length l.loads.items ≡ l.k; each : AreLoads l.finder l.first l.loads.items }
