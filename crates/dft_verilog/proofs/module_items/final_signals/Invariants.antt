use Rattle.std.proofs.Common.{◌≡◌, map, take}
use Rattle.dft_modules.specs.ModuleTexts.{signal_by}
use Rattle.dft_verilog.specs.SaidParts.{net_or_first}
use Rattle.dft_verilog.proofs.module_items.final_signals.Given as goal

abbrev pub invariant-loop-signal : goal.invariant-loop-signal
invariant-loop-signal l = l.pins ≡ map (signal_by (net_or_first l.finals)) (take l.signal-index l.signals)
