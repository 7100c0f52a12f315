-- What `WaveformTables` shows, and a table so far.
use Rattle.dft_stil.specs.declared.waveform_tables.WaveformTables.TheInside.{Inside}
use Rattle.std.specs.Prelude.{ℕ, All, option_map}
use Rattle.dft_stil.specs.WaveformsShown.{IsWide}
use Rattle.dft_stil.specs.declared.waveform_table.WaveformTable.{WaveformTable}
use Rattle.dft_stil.specs.declared.timing.Timing.{Timing}
use Rattle.dft_stil_text.specs.WaveformTables as spec

abbrev pub tables_of : Inside → spec.WaveformTables
tables_of t = record { names = t.names; waveforms = t.waveforms.items }

-- a table so far as the definitions have it
abbrev pub table_as : WaveformTable → spec.WaveformTable
table_as t = record { waveforms = t.waveforms; times = t.times }

-- the block of tables as the definitions have it
abbrev pub timing_as : Timing → spec.Timing
timing_as t = record { name = option_map (λ w. w.now) t.name; tables = t.tables }

-- each table has a place for each of so many signals and each character
abbrev pub AreWide : ℕ → spec.WaveformTables → Type 0
AreWide count tables = All (λ (s : spec.Waveforms). IsWide count s) tables.waveforms
