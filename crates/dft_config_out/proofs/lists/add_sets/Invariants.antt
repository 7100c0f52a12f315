-- What is written, with the items that are left, is the whole list.
use Rattle.std.proofs.Common.{◌≡◌, ◌++◌, drop, map}
use Rattle.dft_config_out.specs.Written.{items_text, list_text, numbers_text}
use Rattle.dft_config_out.proofs.lists.add_sets.Given as goal

abbrev pub invariant-loop-set : goal.invariant-loop-set
invariant-loop-set l = l.out.items ++ items_text l.is_first (map numbers_text (drop l.set-index l.sets)) ≡ l.fn.out.items ++ list_text (map numbers_text l.sets)
