-- The cells before this one have their values, where they lay.
use Rattle.std.proofs.Common.{◌≡◌}
use Rattle.dft_fault_lanes.proofs.CellLemmas.{TakenTo}
use Rattle.dft_fault_lanes.proofs.cells.take.Given as goal

abbrev pub invariant-loop-place : goal.invariant-loop-place
invariant-loop-place l = TakenTo l.flops l.places l.ports l.wides l.fn.cells.values l.cells.values l.place-index × (l.cells.layout ≡ l.fn.cells.layout)
