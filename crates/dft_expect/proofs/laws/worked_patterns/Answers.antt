use Rattle.dft_expect.proofs.ExampleLemmas.{rising_patterns_hold, falling_patterns_hold}
use Rattle.dft_expect.proofs.laws.worked_patterns.Goals as goal

pub returns : goal.returns
returns c = record { rising = rising_patterns_hold; falling = falling_patterns_hold }
