-- So many levels of lock-ups are held.
use Rattle.std.proofs.Common.{ℕ, ◌≡◌, false}
use Rattle.dft_base.specs.declared.tri.Tri.{Tri}
use Rattle.dft_abstract.specs.Cycle.{AreViews}
use Rattle.dft_cycle.specs.Machine.{value_at}
use Rattle.dft_logic.specs.Circuit.{flag_at, logic_at}
use Rattle.dft_takings.specs.Views.{IsReady, pulse_at}
use Rattle.dft_cycle.specs.Views.{IsHeld}
use Rattle.dft_cycle.proofs.rounds.hold_lockups.Given as goal

abbrev pub invariant-loop-level : goal.invariant-loop-level
invariant-loop-level l = record {
  held : (view : ℕ → ℕ → Tri) → AreViews (logic_at l.phase.circuit.now) (pulse_at l.phase.pulse) (value_at l.poss) view → IsHeld l.phase.circuit.now view l.held l._level;
  ready : IsReady l.phase.circuit.now l.values;
  clear : (k : ℕ) → flag_at l.marked k ≡ false;
}
