use Rattle.std.proofs.Common.{◌≡◌, ◌-◌}
use Rattle.dft_stil_tokens.specs.Steps.{left}
use Rattle.dft_stil_text.specs.PatternText as spec
use Rattle.std.proofs.Common.{◌≤◌, ◌+◌}
use Rattle.dft_stil.proofs.pattern_text.block_rest.Given as goal

-- each turn reads one
abbrev pub invariant-turns : goal.invariant-turns
invariant-turns l = record {
  same : spec.block_from (left l.fn.tokens) 1 l.fn.tokens ≡ spec.block_from (l._turn-end - l._turn) l.depth l.tokens;
  small : l.depth ≤ l._turn + 1;
}
