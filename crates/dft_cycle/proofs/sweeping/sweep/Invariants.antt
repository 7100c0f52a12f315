-- The nets before this one are not marked.
use Rattle.std.proofs.Common.{map}
use Rattle.dft_logic.specs.Circuit.{cell_of}
use Rattle.dft_takings.specs.Views.{view_base}
use Rattle.dft_logic.specs.Sweepings.{Sweeping}
use Rattle.dft_logic.proofs.Settlings.{IsGiven}
use Rattle.dft_cycle.proofs.sweeping.sweep.Given as goal

abbrev pub invariant-loop-net : goal.invariant-loop-net
invariant-loop-net l = Sweeping l.circuit.ops (IsGiven l.circuit.ops (view_base (map cell_of l.circuit.flops) l.view) l.values) l.circuit.order l.marked l.net-index
