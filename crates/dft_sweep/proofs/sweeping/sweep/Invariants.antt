-- The nets before this place are not marked.
use Rattle.std.proofs.Common.{◌≡◌, ◌-◌, length}
use Rattle.dft_sweep.specs.Places.{AreBusy}
use Rattle.dft_sweep.specs.Sweepings.{AreSwept}
use Rattle.dft_sweep.proofs.sweeping.sweep.Given as goal

abbrev pub invariant-loop-place : goal.invariant-loop-place
invariant-loop-place l = record {
  size : length l.marks.marked.items ≡ length l.initial.marks.marked.items;
  swept : AreSwept l.field l.values l.marks l.place;
  busy : AreBusy l.field.places.now l.marks;
}

abbrev pub decreases-loop-place : goal.decreases-loop-place
decreases-loop-place l = length l.field.circuit.now.order - l.place
