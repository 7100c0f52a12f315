use Rattle.std.proofs.Common.{◌≡◌, drop}
use Rattle.dft_stil_text.specs.WaveformTables as spec
use Rattle.dft_stil.specs.WaveformsShown.{IsWide}
use Rattle.dft_stil.proofs.waveforms.Waveforms.set_all.Given as goal

abbrev pub invariant-loop-signal : goal.invariant-loop-signal
invariant-loop-signal l = record {
  same : spec.with_waveform (drop l.signal-index l.signals) l.character l.act (record { acts = l.self-inside.acts.items }) ≡ spec.with_waveform l.signals l.character l.act l.fn.self;
  wide : IsWide l.count (record { acts = l.self-inside.acts.items });
}
