-- The flags before this one are down.
use Rattle.std.proofs.Common.{ℕ, ◌≡◌, ◌<◌, false}
use Rattle.dft_logic.specs.Circuit.{flag_at}
use Rattle.dft_takings.proofs.marks.lower.Given as goal

abbrev pub invariant-loop-flag : goal.invariant-loop-flag
invariant-loop-flag l = (e : ℕ) → e < l.flag-index → flag_at l.flags e ≡ false
