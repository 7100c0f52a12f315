use Rattle.std.proofs.Common.{◌≡◌, ◌-◌}
use Rattle.dft_stil_tokens.specs.Steps.{left}
use Rattle.dft_stil_text.specs.WaveformTables as spec
use Rattle.dft_patterns.specs.declared.shapes.Drawing.TheVariants as drawings
use Rattle.dft_stil.proofs.waveform_table.events.Given as goal

-- each turn reads one
abbrev pub invariant-turns : goal.invariant-turns
invariant-turns l = spec.events_from (left l.fn.tokens) l.fn.names l.fn.signals drawings.Begun l.fn.tokens ≡ spec.events_from (l._turn-end - l._turn) l.names l.signals l.drawing l.tokens
