use Rattle.std.proofs.Common.{◌≡◌, ◌-◌}
use Rattle.dft_stil_tokens.specs.Steps.{left}
use Rattle.dft_stil_text.specs.Statements as spec
use Rattle.std.proofs.Common.{option_map, length}
use Rattle.dft_stil.specs.VectorShown.{vector_as}
use Rattle.dft_stil.proofs.statements.assignments.Given as goal

-- each turn reads one
abbrev pub invariant-turns : goal.invariant-turns
invariant-turns l = record {
  same : spec.assignments_from (left l.fn.tokens) l.fn.names (option_map (λ s. s.now) l.fn.waveforms) (vector_as l.fn.begun) l.fn.tokens ≡ spec.assignments_from (l._turn-end - l._turn) l.names (option_map (λ s. s.now) l.waveforms) (vector_as l.vector) l.tokens;
  acts : length l.vector.acts ≡ length l.names.signals;
  told : length l.vector.told.items ≡ length l.names.signals;
}
