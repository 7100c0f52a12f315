-- The bits that are left to note give the table what all give it.
use Rattle.dft_merge.specs.Placement.{port_number}
use Rattle.dft_merge.proofs.BitLemmas.{IsNoting}
use Rattle.dft_merge.proofs.tables.note_ports.Given as goal

abbrev pub invariant-loop-given : goal.invariant-loop-given
invariant-loop-given l = IsNoting port_number l.initial.table l.ports l.table l.given-index
