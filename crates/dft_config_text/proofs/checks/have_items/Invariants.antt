-- The rest of the lists gives what all of them give.
use Rattle.std.proofs.Common.{◌≡◌, drop}
use Rattle.dft_config_text.specs.Checks.{have_items}
use Rattle.dft_config_text.proofs.checks.have_items.Given as goal

abbrev pub invariant-loop-list : goal.invariant-loop-list
invariant-loop-list g l = have_items l.lists ≡ have_items (drop l.list-index l.lists)
