-- The nets before this one are listed.
use Rattle.std.proofs.Common.{length}
use Rattle.dft_behavior.specs.Logic.{reads}
use Rattle.dft_logic.specs.Circuit.{meaning, op_at}
use Rattle.dft_logic.specs.Tables.{IsTable}
use Rattle.dft_logic.proofs.tables.readers.Given as goal

abbrev pub invariant-loop-net : goal.invariant-loop-net
invariant-loop-net l = IsTable (length l.ops) l.net (λ net. reads (meaning (op_at l.ops net))) l.table.items
