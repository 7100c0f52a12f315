-- The names so far are those of the first texts.
use Rattle.std.proofs.Common.{◌≡◌, map, take}
use Rattle.dft_test_configs.proofs.lists.names.Given as goal

abbrev pub invariant-loop-text : goal.invariant-loop-text
invariant-loop-text l = l.names ≡ map (λ text. text.now) (take l.text-index l.texts)
