-- The impulse responses of the channels so far.
use Rattle.std.proofs.Common.{◌≡◌, ℕ, ◌<◌, [], length, get_or}
use Rattle.dft_equations.specs.Impulses.{IsImpulse}
use Rattle.dft_equations.proofs.impulses.impulses.Given as goal

abbrev pub invariant-loop-channel : goal.invariant-loop-channel
invariant-loop-channel l = record {
  count : length l.all.items ≡ l.channel;
  each : (channel : ℕ) → channel < l.channel → IsImpulse l.config.ring channel l.states (get_or l.all.items channel []);
}
