-- The nets before this one are listed.
use Rattle.dft_logic.specs.Circuit.{meaning, op_at, source_places}
use Rattle.dft_logic.specs.Tables.{IsTable}
use Rattle.dft_logic.proofs.tables.sources.Given as goal

abbrev pub invariant-loop-net : goal.invariant-loop-net
invariant-loop-net l = IsTable 1 l.net (λ net. source_places (meaning (op_at l.ops net))) l.table.items
