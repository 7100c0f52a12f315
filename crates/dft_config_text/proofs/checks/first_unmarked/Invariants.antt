-- The chains from here on give what all of them give.
use Rattle.std.proofs.Common.{◌≡◌, ◌-◌, false, get_or}
use Rattle.dft_config_text.specs.Checks.{first_not}
use Rattle.dft_config_text.proofs.checks.first_unmarked.Given as goal

abbrev pub invariant-loop-chain : goal.invariant-loop-chain
invariant-loop-chain l =
    first_not (λ k. get_or l.reached k false) 0 l.chains ≡ first_not (λ k. get_or l.reached k false) l.chain (l.chains - l.chain)
