-- The flip-flops before this one are joined.
use Rattle.std.proofs.Common.{map}
use Rattle.dft_cycle.specs.Machine.{value_at}
use Rattle.dft_logic.specs.Circuit.{cell_of, cell_at}
use Rattle.dft_cycle.specs.Views.{raised_by}
use Rattle.dft_logic.proofs.Writings.{Written}
use Rattle.dft_cycle.proofs.Risings.{Raised}
use Rattle.dft_cycle.proofs.MachineLemmas.{changed_by}
use Rattle.dft_cycle.proofs.rounds.raise.Given as goal

abbrev pub invariant-loop-place : goal.invariant-loop-place
invariant-loop-place l = record {
  written : Written l.initial.poss l.poss (λ c old. raised_by (changed_by l.rising l.pulsed (cell_at (map cell_of l.flops) c)) (value_at l.next c) old) l.place;
  raised : Raised l.initial.poss l.poss l.changed;
}
