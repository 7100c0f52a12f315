use Rattle.std.proofs.Common.{◌≡◌, drop}
use Rattle.std.specs.List.{list_any}
use Rattle.dft_stil.specs.VectorShown.{flagged_in}
use Rattle.dft_stil.proofs.vector.is_flagged.Given as goal

abbrev pub invariant-loop-signal : goal.invariant-loop-signal
invariant-loop-signal l = list_any (flagged_in l.told) (drop l.signal-index l.signals) ≡ list_any (flagged_in l.told) l.signals
