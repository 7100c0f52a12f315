-- The sets so far.
use Rattle.std.proofs.Common.{◌≡◌, ◌∷◌, []}
use Rattle.std.specs.Prelude.{replicate}
use Rattle.dft_configuring.proofs.rooting.plain_phase.Given as goal

abbrev pub invariant-loop-chain : goal.invariant-loop-chain
invariant-loop-chain l = l.phase.items ≡ replicate l._chain (0 ∷ [])
