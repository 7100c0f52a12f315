-- The flip-flops of the domains so far have their next values, and all nets are settled in the view of the last.
use Rattle.std.proofs.Common.{ℕ, ◌≡◌, ◌<◌, false, length}
use Rattle.dft_base.specs.declared.tri.Tri.{Tri}
use Rattle.dft_abstract.specs.Cycle.{AreViews}
use Rattle.dft_cycle.specs.Machine.{value_at}
use Rattle.dft_logic.specs.Circuit.{logic_at, flag_at}
use Rattle.dft_takings.specs.Views.{GivenIn, pulse_at}
use Rattle.dft_cycle.specs.Views.{IsHeld, HasNext}
use Rattle.dft_cycle.proofs.rounds.next_values.Given as goal

abbrev pub invariant-loop-clock : goal.invariant-loop-clock
invariant-loop-clock l = record {
  next : (view : ℕ → ℕ → Tri) → AreViews (logic_at l.views.phase.circuit.now) (pulse_at l.views.phase.pulse) (value_at l.views.poss.now) view → IsHeld l.views.phase.circuit.now view l.views.held.now (length l.views.phase.circuit.now.ops) →
      HasNext l.views.phase.circuit.now (pulse_at l.views.phase.pulse) view l.views.phase.clocks.now l.clock-index l.next;
  given : (k : ℕ) → GivenIn l.views.phase.circuit.now (pulse_at l.views.phase.pulse) l.views.poss.now l.views.held.now l.last.0 l.values k;
  clear : (k : ℕ) → flag_at l.marked k ≡ false;
  live : 0 < length l.views.phase.circuit.now.ops → l.last.0 < length l.views.phase.circuit.now.ops;
}
