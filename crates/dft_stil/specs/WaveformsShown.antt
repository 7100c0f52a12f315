-- What a `Waveforms` shows.
use Rattle.std.specs.Prelude.{◌≡◌, ◌*◌, ℕ, length}
use Rattle.dft_stil.specs.declared.waveforms.Waveforms.TheInside.{Inside}
use Rattle.dft_stil_text.specs.WaveformTables as spec

abbrev pub waveforms_of : Inside → spec.Waveforms
waveforms_of t = record { acts = t.acts.items }

-- there is a place for each of so many signals and each character
abbrev pub IsWide : ℕ → spec.Waveforms → Type 0
IsWide count waveforms = length waveforms.acts ≡ count * 256
