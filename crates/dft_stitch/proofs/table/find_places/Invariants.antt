-- The table knows the chains so far.
use Rattle.dft_stitch.proofs.TableLemmas.{KnowsSome}
use Rattle.dft_stitch.proofs.table.find_places.Given as goal

abbrev pub invariant-loop-chain : goal.invariant-loop-chain
invariant-loop-chain l = KnowsSome l.fn.count l.chains l.chain l.places.items
