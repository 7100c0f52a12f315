-- The needed nets before this one are marked.
use Rattle.std.proofs.Common.{◌≡◌, length}
use Rattle.dft_sweep.specs.Places.{AreBusy}
use Rattle.dft_sweep.proofs.Sweeps.{Marking}
use Rattle.dft_sweep.proofs.sweeping.mark_all.Given as goal

abbrev pub invariant-loop-net : goal.invariant-loop-net
invariant-loop-net l = record {
  size : length l.marks.marked.items ≡ length l.initial.marks.marked.items;
  marked : Marking l.needed l.nets l.initial.marks.marked.items l.marks.marked.items l.net-index;
  busy : AreBusy l.places l.initial.marks → AreBusy l.places l.marks;
}
