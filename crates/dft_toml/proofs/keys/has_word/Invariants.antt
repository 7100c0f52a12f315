-- The rest of the words gives what all of them give.
use Rattle.std.proofs.Common.{◌≡◌, drop, map}
use Rattle.dft_toml.specs.Values.{has_word}
use Rattle.dft_toml.proofs.keys.has_word.Given as goal

abbrev pub invariant-loop-other : goal.invariant-loop-other
invariant-loop-other l = has_word (map (λ w. w.now) l.words) l.word ≡ has_word (map (λ w. w.now) (drop l.other-index l.words)) l.word
