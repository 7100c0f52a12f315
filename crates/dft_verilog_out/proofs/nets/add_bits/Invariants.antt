use Rattle.std.proofs.Common.{◌≡◌, ◌++◌, map, drop}
use Rattle.dft_netlist.specs.Names.{indices_of}
use Rattle.dft_verilog_out.specs.Written.{bit_select_text}
use Rattle.dft_verilog_out.proofs.nets.add_bits.Given as goal

abbrev pub invariant-loop-place : goal.invariant-loop-place
invariant-loop-place l = l.texts.items ++ map (bit_select_text l.name) (drop l.place (indices_of l.range)) ≡ l.fn.texts.items ++ map (bit_select_text l.name) (indices_of l.range)
