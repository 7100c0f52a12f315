-- What is written, with the items that are left, is the whole list.
use Rattle.std.proofs.Common.{◌≡◌, ◌++◌, drop, map}
use Rattle.dft_config_out.specs.Written.{injector_text, items_text, list_text}
use Rattle.dft_config_out.proofs.lists.add_injectors.Given as goal

abbrev pub invariant-loop-injector : goal.invariant-loop-injector
invariant-loop-injector l = l.out.items ++ items_text l.is_first (map injector_text (drop l.injector-index l.injectors)) ≡ l.fn.out.items ++ list_text (map injector_text l.injectors)
