-- What is marked now, and by the rest, is what was marked and by all.
use Rattle.std.proofs.Common.{◌≡◌, ℕ, ◌<◌, false, ◌||◌, length, drop, get_or}
use Rattle.dft_config.specs.Range.{has, same_number}
use Rattle.dft_config_text.proofs.checks.mark.Given as goal

abbrev pub invariant-loop-chain : goal.invariant-loop-chain
invariant-loop-chain l =
    (k : ℕ) → k < length l.reached
    → (get_or l.fn.reached k false || has same_number l.group k) ≡ (get_or l.reached k false || has same_number (drop l.chain-index l.group) k)
