-- What the operands that are left add comes to what all add.
use Rattle.dft_logic.proofs.TableLemmas.{Adding}
use Rattle.dft_logic.proofs.tables.add_inputs.Given as goal

abbrev pub invariant-loop-input : goal.invariant-loop-input
invariant-loop-input l = Adding l.inputs l.reader l.initial.table.items l.table.items l.input-index
