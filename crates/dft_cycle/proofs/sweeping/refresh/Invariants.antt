-- The nets before this one have their drivers' values.
use Rattle.std.proofs.Common.{map}
use Rattle.dft_logic.specs.Circuit.{cell_of}
use Rattle.dft_takings.specs.Views.{view_base}
use Rattle.dft_cycle.proofs.Sweepings.{Refreshing}
use Rattle.dft_cycle.proofs.sweeping.refresh.Given as goal

abbrev pub invariant-loop-net : goal.invariant-loop-net
invariant-loop-net l = Refreshing l.circuit.ops (view_base (map cell_of l.circuit.flops) l.view) l.nets l.initial.values l.values l.initial.marked l.marked l.any l.net-index
