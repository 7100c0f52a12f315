-- The trial means what it meant, and at each turn a column more is clear, from the last one on.
use Rattle.std.proofs.Common.{ℕ, ◌≡◌, ◌≤◌, ◌+◌, false, length}
use Rattle.dft_base.specs.Solutions.{bit_at}
use Rattle.dft_gf2.specs.Rows.{IsReduced}
use Rattle.dft_gf2.proofs.system.reduce.Given as goal

abbrev pub invariant-loop-turn : goal.invariant-loop-turn
invariant-loop-turn l = record {
  reduced : IsReduced l.rows l.row_of l.initial.trial l.trial;
  clear : (d : ℕ) → length l.row_of ≤ d + l._turn → bit_at l.trial.set d ≡ false;
}
