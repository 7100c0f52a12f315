-- The nets before this one have their values.
use Rattle.std.proofs.Common.{◌≡◌, length}
use Rattle.dft_sweep.specs.Places.{AreBusy}
use Rattle.dft_sweep.specs.Fields.{meaning_at, sources_of}
use Rattle.dft_sweep.proofs.Sweeps.{Refreshing}
use Rattle.dft_sweep.proofs.sweeping.refresh.Given as goal

abbrev pub invariant-loop-net : goal.invariant-loop-net
invariant-loop-net l = record {
  size : length l.marks.marked.items ≡ length l.initial.marks.marked.items;
  given : Refreshing l.field.needed.now (meaning_at l.field) (sources_of l.field.sources) l.nets l.initial.values l.values l.initial.marks.marked.items l.marks.marked.items l.net-index;
  busy : AreBusy l.field.places.now l.initial.marks → AreBusy l.field.places.now l.marks;
}
