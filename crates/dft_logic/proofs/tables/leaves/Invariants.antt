-- The nets before this one are listed.
use Rattle.std.proofs.Common.{length, map}
use Rattle.dft_logic.specs.Circuit.{meaning, op_at, cell_of, leaf_domains}
use Rattle.dft_logic.specs.Tables.{IsTable}
use Rattle.dft_logic.proofs.tables.leaves.Given as goal

abbrev pub invariant-loop-net : goal.invariant-loop-net
invariant-loop-net l = IsTable (length l.ops) l.net (λ net. leaf_domains (map cell_of l.flops) net (meaning (op_at l.ops net))) l.table.items
