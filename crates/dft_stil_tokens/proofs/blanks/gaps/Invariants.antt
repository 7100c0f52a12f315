use Rattle.std.proofs.Common.{◌≡◌, ◌≤◌, ◌+◌, ◌-◌, length}
use Rattle.dft_stil_tokens.specs.Lexemes as spec
use Rattle.dft_stil_tokens.proofs.blanks.gaps.Given as goal

-- the rest of the text gives what the whole gives
abbrev pub invariant-loop-gap : goal.invariant-loop-gap
invariant-loop-gap l = record {
  same : spec.gaps l.text ≡ length l.text - length l.rest + spec.gaps l.rest;
  gap : l.gap ≡ spec.gap_len l.rest;
  inside : l.gap ≤ length l.rest;
  within : length l.rest ≤ length l.text;
}

abbrev pub decreases-loop-gap : goal.decreases-loop-gap
decreases-loop-gap l = length l.rest
