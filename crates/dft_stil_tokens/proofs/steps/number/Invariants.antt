use Rattle.dft_stil_tokens.proofs.NumberLemmas.{Counts}
use Rattle.dft_stil_tokens.proofs.steps.number.Given as goal

-- the digits left give what all digits give, unless the value is too large
abbrev pub invariant-loop-digit : goal.invariant-loop-digit
invariant-loop-digit l = Counts l.digits l.value l.digit-index
