-- What is written, with the items that are left, is the whole list.
use Rattle.std.proofs.Common.{◌≡◌, ◌++◌, drop, map}
use Rattle.std.specs.Prelude.{decimal}
use Rattle.dft_config_out.specs.Written.{items_text, list_text}
use Rattle.dft_config_out.proofs.lists.add_chains.Given as goal

abbrev pub invariant-loop-chain : goal.invariant-loop-chain
invariant-loop-chain l = l.out.items ++ items_text l.is_first (map decimal (drop l.chain-index l.chains)) ≡ l.fn.out.items ++ list_text (map decimal l.chains)
