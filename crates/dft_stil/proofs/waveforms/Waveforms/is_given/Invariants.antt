use Rattle.std.proofs.Common.{◌≡◌, drop}
use Rattle.dft_stil_text.specs.WaveformTables as spec
use Rattle.dft_stil.proofs.waveforms.Waveforms.is_given.Given as goal

abbrev pub invariant-loop-signal : goal.invariant-loop-signal
invariant-loop-signal l = spec.is_given l.self (drop l.signal-index l.signals) l.character ≡ spec.is_given l.self l.signals l.character
