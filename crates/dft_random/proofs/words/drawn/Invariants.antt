-- The words so far, and those that the generator gives from here on, are all the words.
use Rattle.std.proofs.Common.{◌≡◌, ◌++◌, ◌-◌}
use Rattle.rand_core.specs.Steps.{first_words}
use Rattle.rand_pcg.specs.Pcg.{pcg32}
use Rattle.dft_random.proofs.words.drawn.Given as goal

abbrev pub invariant-loop-turn : goal.invariant-loop-turn
invariant-loop-turn l = l.words.items ++ first_words pcg32 (l.count - l._turn) l.random ≡ first_words pcg32 l.count l.initial.random
