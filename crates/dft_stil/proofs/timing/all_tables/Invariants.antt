use Rattle.std.proofs.Common.{◌≡◌, ◌-◌}
use Rattle.dft_stil_tokens.specs.Steps.{left}
use Rattle.dft_stil_text.specs.WaveformTables as spec
use Rattle.std.proofs.Common.{length}
use Rattle.dft_stil.specs.WaveformTablesShown.{AreWide}
use Rattle.dft_stil.proofs.timing.all_tables.Given as goal

-- each turn reads one
abbrev pub invariant-turns : goal.invariant-turns
invariant-turns l = record {
  same : spec.waveform_tables_from (left l.fn.tokens) l.fn.names spec.no_tables l.fn.tokens ≡ spec.waveform_tables_from (l._turn-end - l._turn) l.names l.tables l.tokens;
  wide : AreWide (length l.names.signals) l.tables;
}
