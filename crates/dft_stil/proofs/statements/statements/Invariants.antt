use Rattle.std.proofs.Common.{◌≡◌, ◌-◌}
use Rattle.dft_stil_tokens.specs.Steps.{left}
use Rattle.dft_stil_text.specs.Statements as spec
use Rattle.std.proofs.Common.{length}
use Rattle.dft_stil.specs.PatternShown.{pattern_as}
use Rattle.dft_stil.proofs.statements.statements.Given as goal

-- each turn reads one
abbrev pub invariant-turns : goal.invariant-turns
invariant-turns l = record {
  same : spec.statements_from (left l.fn.tokens) l.most l.names l.tables (pattern_as l.fn.pattern) l.fn.tokens ≡ spec.statements_from (l._turn-end - l._turn) l.most l.names l.tables (pattern_as l.pattern) l.tokens;
  acts : length l.pattern.acts ≡ length l.names.signals;
}
