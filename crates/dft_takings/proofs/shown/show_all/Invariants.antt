-- The nets before this one are told.
use Rattle.std.proofs.Common.{map}
use Rattle.dft_takings.specs.declared.shown.Shown.TheVariants.{Nothing}
use Rattle.dft_logic.specs.Circuit.{cell_of, flag_at}
use Rattle.dft_takings.specs.ShownTables.{shown_of, shown_in}
use Rattle.dft_logic.proofs.Fillings.{Filling}
use Rattle.dft_takings.proofs.shown.show_all.Given as goal

abbrev pub invariant-loop-net : goal.invariant-loop-net
invariant-loop-net l = Filling shown_of Nothing (shown_in (map cell_of l.circuit.flops) l.rising (flag_at l.pulsed)) l.circuit.ops l.circuit.order l.shown l.net-index
