use Rattle.std.proofs.Common.{◌≡◌, ◌++◌, flat_map, drop}
use Rattle.dft_stil_out.specs.Written as form
use Rattle.dft_stil_out.proofs.writer.add_declarations.Given as goal

abbrev pub invariant-loop-signal : goal.invariant-loop-signal
invariant-loop-signal l = l.out.items ++ flat_map form.signal_line (drop l.signal-index l.signals) ≡ l.fn.out.items ++ flat_map form.signal_line l.signals
