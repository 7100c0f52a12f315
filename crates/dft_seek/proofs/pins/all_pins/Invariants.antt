-- The pins of the instances before this one.
use Rattle.std.proofs.Common.{ℕ, ◌≡◌, ◌<◌, length}
use Rattle.dft_seek.specs.Pins.{ArePinsOf, pins_at}
use Rattle.dft_seek.proofs.pins.all_pins.Given as goal

abbrev pub invariant-loop-number : goal.invariant-loop-number
invariant-loop-number l = record {
  count : length l.pins.items ≡ l.number;
  each : (i : ℕ) → i < l.number → ArePinsOf l.design i (pins_at l.pins.items i);
}
