-- The nets before this one have their drivers' values.
use Rattle.std.proofs.Common.{map}
use Rattle.dft_logic.specs.Circuit.{cell_of}
use Rattle.dft_takings.specs.Views.{view_base}
use Rattle.dft_takings.proofs.Listings.{Listed}
use Rattle.dft_takings.proofs.settling.settle.Given as goal

abbrev pub invariant-loop-net : goal.invariant-loop-net
invariant-loop-net l = Listed l.circuit.ops (view_base (map cell_of l.circuit.flops) l.view) l.circuit.order l.values l.net-index
