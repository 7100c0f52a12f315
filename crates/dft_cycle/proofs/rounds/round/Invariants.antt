-- The lock-ups of the domains so far are held higher, and all nets but leaves of the last are settled in its view.
use Rattle.std.proofs.Common.{ℕ, ◌≡◌, ◌<◌, ◌⊎◌, false, length}
use Rattle.dft_netlist.specs.Orders.{Has}
use Rattle.dft_cycle.specs.Machine.{value_at}
use Rattle.dft_logic.specs.Circuit.{flag_at}
use Rattle.dft_takings.specs.Views.{GivenIn, IsReady, pulse_at}
use Rattle.dft_logic.specs.Tables.{list_at}
use Rattle.dft_cycle.proofs.RoundLemmas.{Rises}
use Rattle.dft_cycle.proofs.rounds.round.Given as goal

abbrev pub invariant-loop-clock : goal.invariant-loop-clock
invariant-loop-clock l = record {
  rises : Rises l.phase.circuit.now (pulse_at l.phase.pulse) (value_at l.poss) l.phase.clocks.now l.initial.held l.held l.clock-index;
  same : l.changed ≡ false → l.held ≡ l.initial.held;
  near : (k : ℕ) → Has (list_at l.phase.circuit.now.leaves l.last.0) k ⊎ GivenIn l.phase.circuit.now (pulse_at l.phase.pulse) l.poss l.held l.last.0 l.values k;
  ready : IsReady l.phase.circuit.now l.values;
  clear : (k : ℕ) → flag_at l.marked k ≡ false;
  live : 0 < length l.phase.circuit.now.ops → l.last.0 < length l.phase.circuit.now.ops;
}
