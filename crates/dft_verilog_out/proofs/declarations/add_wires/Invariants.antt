use Rattle.std.proofs.Common.{◌≡◌, ◌++◌, flat_map, drop}
use Rattle.dft_verilog_out.specs.Written.{wire_line}
use Rattle.dft_verilog_out.proofs.declarations.add_wires.Given as goal

abbrev pub invariant-loop-net : goal.invariant-loop-net
invariant-loop-net l = l.out.items ++ flat_map wire_line (drop l.net-index l.nets) ≡ l.fn.out.items ++ flat_map wire_line l.nets
