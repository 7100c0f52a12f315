use Rattle.std.proofs.Common.{◌≡◌, drop, length}
use Rattle.dft_stil_text.specs.SignalGroups as spec
use Rattle.dft_stil.specs.MembersShown.{Sees}
use Rattle.dft_stil.proofs.members.Members.add_signals.Given as goal

abbrev pub invariant-loop-signal : goal.invariant-loop-signal
invariant-loop-signal l = record {
  same : spec.with_signals l.self (drop l.signal-index l.signals) ≡ spec.with_signals l.fn.self l.signals;
  sees : Sees l.self l.seen;
  length : length l.seen ≡ length l.fn.seen;
}
