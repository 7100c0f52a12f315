-- What is written, with the items that are left, is the whole list.
use Rattle.std.proofs.Common.{◌≡◌, ◌++◌, drop, map}
use Rattle.dft_config_out.specs.Written.{items_text, list_text, name_text}
use Rattle.dft_config_out.proofs.lists.add_names.Given as goal

abbrev pub invariant-loop-name : goal.invariant-loop-name
invariant-loop-name l = l.out.items ++ items_text l.is_first (map name_text (drop l.name-index l.names)) ≡ l.fn.out.items ++ list_text (map name_text l.names)
