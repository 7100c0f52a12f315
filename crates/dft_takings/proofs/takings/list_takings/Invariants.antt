-- The flip-flops before this one that are not left out are listed.
use Rattle.std.proofs.Common.{◌≡◌, map}
use Rattle.std.specs.Vec.{vec_capacity}
use Rattle.dft_registers.specs.Cells.{course}
use Rattle.dft_logic.specs.Circuit.{cell_of, cell_at}
use Rattle.dft_takings.proofs.TakingLemmas.{Taken}
use Rattle.dft_takings.proofs.takings.list_takings.Given as goal

abbrev pub invariant-loop-place : goal.invariant-loop-place
invariant-loop-place l = Taken (cell_at (map cell_of l.flops)) l.entries (course l.cells.layout l.moves) l.takings.items l.place × (vec_capacity l.takings ≡ vec_capacity l.initial.takings)
