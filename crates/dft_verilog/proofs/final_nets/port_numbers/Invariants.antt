use Rattle.std.proofs.Common.{drop}
use Rattle.dft_verilog.proofs.NumberingLemmas.{NumbersPorts}
use Rattle.dft_verilog.proofs.final_nets.port_numbers.Given as goal

abbrev pub invariant-loop-port : goal.invariant-loop-port
invariant-loop-port l = NumbersPorts l.fn.count l.ports l.port-index (drop l.port-index l.ports) l.next l.numbers.items
