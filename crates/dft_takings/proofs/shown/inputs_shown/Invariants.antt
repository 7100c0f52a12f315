-- What the inputs from this one on show together.
use Rattle.std.proofs.Common.{◌≡◌, map, drop}
use Rattle.dft_netlist.specs.Drivers.{nets_of}
use Rattle.dft_takings.specs.Shows.{shown_by}
use Rattle.dft_logic.specs.Circuit.{source_at}
use Rattle.dft_takings.specs.ShownTables.{shown_of, shown_at}
use Rattle.dft_takings.proofs.shown.inputs_shown.Given as goal

abbrev pub invariant-loop-place : goal.invariant-loop-place
invariant-loop-place l = shown_of l.together ≡ shown_by (shown_at l.shown) (nets_of (map source_at (drop l.place l.inputs)))
