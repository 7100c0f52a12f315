-- The rest of the resets gives what all of them give.
use Rattle.std.proofs.Common.{◌≡◌, drop}
use Rattle.dft_config_text.specs.Checks.{are_apart}
use Rattle.dft_config_text.proofs.checks.are_apart.Given as goal

abbrev pub invariant-loop-reset : goal.invariant-loop-reset
invariant-loop-reset l = are_apart l.domains l.resets ≡ are_apart l.domains (drop l.reset-index l.resets)
