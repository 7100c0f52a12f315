use Rattle.std.proofs.Common.{◌≡◌, ◌++◌, drop}
use Rattle.dft_verilog_out.specs.Written.{connection_texts, list_text, list_text_behind}
use Rattle.dft_verilog_out.proofs.instances.add_connections.Given as goal

abbrev pub invariant-loop-place : goal.invariant-loop-place
invariant-loop-place l =
    l.out.items ++ list_text_behind l.before (connection_texts l.nets (drop l.place l.pins) (drop l.place l.signals))
    ≡ l.fn.out.items ++ list_text (connection_texts l.nets l.pins l.signals)
