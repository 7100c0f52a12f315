-- What is written, with the items that are left, is the whole list.
use Rattle.std.proofs.Common.{◌≡◌, ◌++◌, drop, map}
use Rattle.std.specs.Prelude.{decimal}
use Rattle.dft_config_out.specs.Written.{items_text, list_text}
use Rattle.dft_config_out.proofs.lists.add_stages.Given as goal

abbrev pub invariant-loop-stage : goal.invariant-loop-stage
invariant-loop-stage l = l.out.items ++ items_text l.is_first (map decimal (drop l.stage-index l.stages)) ≡ l.fn.out.items ++ list_text (map decimal l.stages)
