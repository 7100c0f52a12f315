use Rattle.std.proofs.Common.{◌≡◌}
use Rattle.dft_netlist.specs.NetNumbers.{nets_from}
use Rattle.dft_verilog.proofs.module_nets.counted.Given as goal

abbrev pub invariant-loop-place : goal.invariant-loop-place
invariant-loop-place l = l.nets ≡ nets_from l.first l.place
