-- The texts of the names so far.
use Rattle.std.proofs.Common.{◌≡◌, map, take}
use Rattle.dft_config_text.proofs.distinct.names_differ.Given as goal

abbrev pub invariant-loop-name : goal.invariant-loop-name
invariant-loop-name l = map (λ t. t.now) l.texts.items ≡ take l.name-index l.names
