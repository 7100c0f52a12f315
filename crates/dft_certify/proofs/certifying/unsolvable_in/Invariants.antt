-- The count so far and that of the entries that are left.
use Rattle.std.proofs.Common.{◌≡◌, ◌+◌, drop}
use Rattle.dft_certify.specs.Certifying.{unsolvable_in}
use Rattle.dft_certify.proofs.certifying.unsolvable_in.Given as goal

abbrev pub invariant-loop-entry : goal.invariant-loop-entry
invariant-loop-entry l = l.count + unsolvable_in (drop l.entry-index l.entries) ≡ unsolvable_in l.entries
