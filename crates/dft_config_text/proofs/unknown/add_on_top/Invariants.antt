-- The keys so far, and those of the rest.
use Rattle.std.proofs.Common.{◌≡◌, ◌++◌}
use Rattle.toml.specs.View.{members_view}
use Rattle.dft_config_text.specs.Unknown.{unknown_on_top}
use Rattle.dft_config_text.proofs.unknown.add_on_top.Given as goal

abbrev pub invariant-loop-key : goal.invariant-loop-key
invariant-loop-key l = l.fn.keys.items ++ unknown_on_top l.fill (members_view l.table.entries) ≡ l.keys.items ++ unknown_on_top l.fill (members_view l.key-iterator)
