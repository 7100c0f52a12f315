-- The flip-flops before this one are listed.
use Rattle.std.proofs.Common.{map}
use Rattle.dft_logic.specs.Circuit.{cell_of, cell_at, force_nets}
use Rattle.dft_logic.specs.Tables.{IsTable}
use Rattle.dft_logic.proofs.tables.followers.Given as goal

abbrev pub invariant-loop-place : goal.invariant-loop-place
invariant-loop-place l = IsTable l.nets l.place (λ c. force_nets (cell_at (map cell_of l.flops) c).forces) l.table.items
