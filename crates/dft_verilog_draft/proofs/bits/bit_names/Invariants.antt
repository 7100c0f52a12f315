use Rattle.std.proofs.Common.{◌≡◌, map}
use Rattle.dft_netlist.specs.Names.{bit_name}
use Rattle.dft_verilog_draft.proofs.BitNameLemmas.{first_indices}
use Rattle.dft_verilog_draft.proofs.bits.bit_names.Given as goal

abbrev pub invariant-loop-place : goal.invariant-loop-place
invariant-loop-place l = l.list.items ≡ map (bit_name l.word) (first_indices l.range l.place)
