use Rattle.std.proofs.Common.{◌≡◌, ◌++◌, codes, map, drop}
use Rattle.dft_verilog_out.specs.Written.{signal_text, list_text_behind}
use Rattle.dft_verilog_out.proofs.instances.add_inputs.Given as goal

abbrev pub invariant-loop-signal : goal.invariant-loop-signal
invariant-loop-signal l =
    l.out.items ++ list_text_behind (codes ", ") (map (signal_text l.nets) (drop l.signal-index l.signals))
    ≡ l.fn.out.items ++ list_text_behind (codes ", ") (map (signal_text l.nets) l.signals)
