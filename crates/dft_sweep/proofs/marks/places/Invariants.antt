-- The nets before this place of the order are told their places.
use Rattle.std.proofs.Common.{◌≡◌, length}
use Rattle.dft_sweep.proofs.Placings.{Placing}
use Rattle.dft_sweep.proofs.marks.places.Given as goal

abbrev pub invariant-loop-place : goal.invariant-loop-place
invariant-loop-place l = record {
  size : length l.places.items ≡ length l.circuit.ops;
  placed : Placing l.circuit.ops l.circuit.order l.places.items l.place;
}
