-- What is written, with the items that are left, is the whole list.
use Rattle.std.proofs.Common.{◌≡◌, ◌++◌, drop, map}
use Rattle.dft_config_out.specs.Written.{items_text, list_text, numbers_text}
use Rattle.dft_config_out.proofs.lists.add_groups.Given as goal

abbrev pub invariant-loop-group : goal.invariant-loop-group
invariant-loop-group l = l.out.items ++ items_text l.is_first (map numbers_text (drop l.group-index l.groups)) ≡ l.fn.out.items ++ list_text (map numbers_text l.groups)
