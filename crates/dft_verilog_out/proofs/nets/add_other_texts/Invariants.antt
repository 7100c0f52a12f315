use Rattle.std.proofs.Common.{◌≡◌, ◌++◌, map, drop, length}
use Rattle.dft_verilog_out.specs.Written.{name_text}
use Rattle.dft_verilog_out.proofs.nets.add_other_texts.Given as goal

abbrev pub invariant-loop-net : goal.invariant-loop-net
invariant-loop-net l = l.texts.items ++ map name_text (drop l.net l.design.nets) ≡ l.fn.texts.items ++ map name_text (drop (length l.fn.texts.items) l.design.nets)
