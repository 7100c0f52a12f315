use Rattle.std.proofs.Common.{◌≡◌, length}
use Rattle.dft_hier.specs.Reach.{AreWithin}
use Rattle.dft_hier.proofs.components.all_parents.Given as goal

abbrev pub invariant-loop-number : goal.invariant-loop-number
invariant-loop-number l = record {
  count : length l.parents.items ≡ length l.children;
  within : AreWithin (length l.children) l.parents.items;
}
