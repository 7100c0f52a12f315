-- The cells before this one.
use Rattle.std.proofs.Common.{ℕ, ◌≡◌, ◌<◌}
use Rattle.dft_logic.specs.Values.{value_at}
use Rattle.dft_seek.specs.Nodes.{risen_at}
use Rattle.dft_seek.proofs.rig.Rig.rise.Given as goal

abbrev pub invariant-loop-cell : goal.invariant-loop-cell
invariant-loop-cell l = (c : ℕ) → c < l.cell → value_at l.risen c ≡ risen_at l.self l.cells l.values c
