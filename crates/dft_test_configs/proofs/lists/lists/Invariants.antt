-- The lists so far are the first ones.
use Rattle.std.proofs.Common.{◌≡◌, map, take}
use Rattle.dft_test_configs.proofs.lists.lists.Given as goal

abbrev pub invariant-loop-list : goal.invariant-loop-list
invariant-loop-list g l = l.lists.items ≡ map (λ list. list.now) (take l.list-index l.items)
