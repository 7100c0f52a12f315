-- The nets before this one are told.
use Rattle.dft_logic.specs.Circuit.{meaning, op_at}
use Rattle.dft_logic.specs.Tables.{IsTable}
use Rattle.dft_seek.specs.Rigs.{cells_shown}
use Rattle.dft_seek.proofs.showing.showing.Given as goal

abbrev pub invariant-loop-net : goal.invariant-loop-net
invariant-loop-net l = IsTable l.instances l.net (λ net. cells_shown (meaning (op_at l.ops net))) l.table.items
