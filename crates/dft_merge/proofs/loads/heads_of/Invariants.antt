-- The heads of the chains before this one.
use Rattle.std.proofs.Common.{◌≡◌, ◌<◌, ℕ, length}
use Rattle.dft_base.specs.Solutions.{bit_at}
use Rattle.dft_stitch.specs.Plans.{falling_head}
use Rattle.dft_merge.proofs.loads.heads_of.Given as goal

abbrev pub invariant-loop-chain : goal.invariant-loop-chain
invariant-loop-chain l = record {
  count : length l.heads.items ≡ l.chain;
  each : (chain : ℕ) → chain < l.chain → bit_at l.heads.items chain ≡ falling_head l.chains chain;
}
