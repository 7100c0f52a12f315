-- The nets before this one.
use Rattle.std.proofs.Common.{ℕ, ◌≡◌, ◌<◌, length}
use Rattle.dft_netlist.specs.Drivers.{driver}
use Rattle.dft_seek.specs.Rigs.{shows_at}
use Rattle.dft_seek.specs.Walks.{is_output_of}
use Rattle.dft_seek.proofs.steps.shown_cells.Given as goal

abbrev pub invariant-loop-net : goal.invariant-loop-net
invariant-loop-net l = record {
  size : length l.shows.items ≡ l.net;
  each : (net : ℕ) → net < l.net → (c : ℕ) → shows_at l.shows.items net c ≡ is_output_of c (driver l.design net);
}
