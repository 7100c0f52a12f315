-- The cells before this one were acted on, where they lay.
use Rattle.std.proofs.Common.{◌≡◌, length}
use Rattle.dft_fault_lanes.proofs.CellLemmas.{Written, acted_by}
use Rattle.dft_fault_lanes.proofs.cells.act_all.Given as goal

abbrev pub invariant-loop-place : goal.invariant-loop-place
invariant-loop-place l = Written l.fn.cells.values l.cells.values (acted_by l.flops l.ports) l.place × ((l.cells.layout ≡ l.fn.cells.layout) × (length l.cells.values ≡ length l.fn.cells.values))
