-- The bytes so far.
use Rattle.std.proofs.Common.{◌≡◌, take, length}
use Rattle.std.specs.List.{sum_by}
use Rattle.dft_stil_out.specs.Written.{signal_line}
use Rattle.dft_stil_out.proofs.parts.declarations_length.Given as goal

abbrev pub invariant-loop-signal : goal.invariant-loop-signal
invariant-loop-signal l = l.bytes ≡ sum_by (λ s. length (signal_line s)) (take l.signal-index l.signals)
