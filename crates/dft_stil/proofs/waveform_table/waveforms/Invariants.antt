use Rattle.std.proofs.Common.{◌≡◌, ◌-◌}
use Rattle.dft_stil_tokens.specs.Steps.{left}
use Rattle.dft_stil_text.specs.WaveformTables as spec
use Rattle.std.proofs.Common.{length}
use Rattle.dft_stil.specs.WaveformsShown.{IsWide}
use Rattle.dft_stil.specs.WaveformTablesShown.{table_as}
use Rattle.dft_stil.proofs.waveform_table.waveforms.Given as goal

-- each turn reads one
abbrev pub invariant-turns : goal.invariant-turns
invariant-turns l = record {
  same : spec.waveforms_from (left l.fn.tokens) l.fn.names l.fn.signals (table_as l.fn.table) l.fn.tokens ≡ spec.waveforms_from (l._turn-end - l._turn) l.names l.signals (table_as l.table) l.tokens;
  wide : IsWide (length l.names.signals) l.table.waveforms;
}
