-- No flag is up but those of the nets from this one on.
use Rattle.std.proofs.Common.{ℕ, ◌≡◌, true, drop}
use Rattle.dft_cycle.specs.Machine.{is_one_of}
use Rattle.dft_logic.specs.Circuit.{flag_at}
use Rattle.dft_cycle.proofs.machine.lower_flags.Given as goal

abbrev pub invariant-loop-net : goal.invariant-loop-net
invariant-loop-net l = (e : ℕ) → flag_at l.flags e ≡ true → is_one_of (drop l.net-index l.nets) e ≡ true
