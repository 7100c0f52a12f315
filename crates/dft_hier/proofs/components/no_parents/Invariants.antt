-- So many lists so far, each with nothing in it.
use Rattle.std.proofs.Common.{◌≡◌, length}
use Rattle.dft_hier.specs.Reach.{AreWithin}
use Rattle.dft_hier.proofs.components.no_parents.Given as goal

abbrev pub invariant-loop-number : goal.invariant-loop-number
invariant-loop-number l = record {
  count : length l.parents.items ≡ l._number;
  within : AreWithin l.count l.parents.items;
}
