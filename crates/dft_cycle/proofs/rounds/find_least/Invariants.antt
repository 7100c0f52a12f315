-- The map is above the old values and below all closed maps.
use Rattle.std.proofs.Common.{ℕ, ◌≡◌, false, count_by}
use Rattle.dft_base.specs.Tri.{is_known}
use Rattle.dft_logic.specs.Circuit.{flag_at, logic_at}
use Rattle.dft_takings.specs.Views.{IsReady, pulse_at}
use Rattle.dft_cycle.specs.Views.{IsSearch}
use Rattle.dft_cycle.proofs.Risings.{Reached}
use Rattle.dft_cycle.proofs.rounds.find_least.Given as goal

abbrev pub invariant-loop : goal.invariant-loop
invariant-loop l = record {
  reached : Reached (logic_at l.phase.circuit.now) (pulse_at l.phase.pulse) l.search.poss.items;
  search : IsSearch l.phase.circuit.now l.search;
  ready : IsReady l.phase.circuit.now l.values;
  clear : (k : ℕ) → flag_at l.marked k ≡ false;
}

abbrev pub decreases-loop : goal.decreases-loop
decreases-loop l = count_by is_known l.search.poss.items
