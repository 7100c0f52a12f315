use Rattle.std.proofs.Common.{◌≡◌, drop, length}
use Rattle.dft_stil_text.specs.Statements as spec
use Rattle.dft_stil.specs.VectorShown.{flagged_in}
use Rattle.dft_stil.proofs.vector.flag.Given as goal

abbrev pub invariant-loop-signal : goal.invariant-loop-signal
invariant-loop-signal l = record {
  same : spec.with_told (drop l.signal-index l.signals) (flagged_in l.told) ≡ spec.with_told l.signals (flagged_in l.fn.told);
  length : length l.told ≡ length l.fn.told;
}
