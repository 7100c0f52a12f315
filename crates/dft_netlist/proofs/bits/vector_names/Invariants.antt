use Rattle.std.proofs.Common.{◌≡◌, map, take}
use Rattle.dft_netlist.specs.Names.{bit_name, indices_of}
use Rattle.dft_netlist.proofs.bits.vector_names.Given as goal

abbrev pub invariant-loop-place : goal.invariant-loop-place
invariant-loop-place l = l.names.items ≡ map (bit_name l.name) (take l.place (indices_of l.range))
