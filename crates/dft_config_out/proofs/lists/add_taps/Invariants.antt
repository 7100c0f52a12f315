-- What is written, with the items that are left, is the whole list.
use Rattle.std.proofs.Common.{◌≡◌, ◌++◌, drop, map}
use Rattle.dft_config_out.specs.Written.{items_text, list_text, tap_text}
use Rattle.dft_config_out.proofs.lists.add_taps.Given as goal

abbrev pub invariant-loop-tap : goal.invariant-loop-tap
invariant-loop-tap l = l.out.items ++ items_text l.is_first (map tap_text (drop l.tap-index l.taps)) ≡ l.fn.out.items ++ list_text (map tap_text l.taps)
