-- The keys so far, and those of the rest.
use Rattle.std.proofs.Common.{◌≡◌, ◌++◌}
use Rattle.toml.specs.View.{members_view}
use Rattle.dft_config_text.specs.Unknown.{unknown_in}
use Rattle.dft_config_text.proofs.unknown.add_in.Given as goal

abbrev pub invariant-loop-key : goal.invariant-loop-key
invariant-loop-key l = l.fn.keys.items ++ unknown_in l.section (members_view l.table.entries) ≡ l.keys.items ++ unknown_in l.section (members_view l.key-iterator)
