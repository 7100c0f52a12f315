-- The lists before this one are packed.
use Rattle.dft_logic.proofs.PackedLemmas.{Packs}
use Rattle.dft_logic.proofs.packed.packed.Given as goal

abbrev pub invariant-loop-list : goal.invariant-loop-list
invariant-loop-list l = Packs l.lists l.list-index l.ends.items l.numbers.items
