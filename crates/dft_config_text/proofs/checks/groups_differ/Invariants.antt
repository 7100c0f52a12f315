-- The rest of the lists gives what all of them give.
use Rattle.std.proofs.Common.{◌≡◌, drop}
use Rattle.dft_config_text.specs.Checks.{each_differs}
use Rattle.dft_config_text.proofs.checks.groups_differ.Given as goal

abbrev pub invariant-loop-list : goal.invariant-loop-list
invariant-loop-list l = each_differs l.lists ≡ each_differs (drop l.list-index l.lists)
