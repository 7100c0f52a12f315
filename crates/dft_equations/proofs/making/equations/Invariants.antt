-- The rows of the chains so far.
use Rattle.std.proofs.Common.{◌≡◌, ℕ, ◌<◌, [], length, get_or}
use Rattle.std.specs.List.{slice_index}
use Rattle.dft_base.specs.Solutions.{bit_at}
use Rattle.dft_equations.specs.LoadRows.{AreRowsOf}
use Rattle.dft_equations.proofs.making.equations.Given as goal

abbrev pub invariant-loop-chain : goal.invariant-loop-chain
invariant-loop-chain l = record {
  count : length l.chains.items ≡ l.chain;
  each : (chain : ℕ) → chain < l.chain → AreRowsOf l.config.ring l.cycles (bit_at l.falling chain) chain (slice_index l.lengths chain) (get_or l.chains.items chain []);
}
