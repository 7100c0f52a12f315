use Rattle.std.proofs.Common.{◌≡◌, ◌++◌, flat_map, drop}
use Rattle.dft_verilog_out.specs.Written.{port_texts}
use Rattle.dft_verilog_out.proofs.nets.port_texts.Given as goal

abbrev pub invariant-loop-port : goal.invariant-loop-port
invariant-loop-port l = l.texts.items ++ flat_map port_texts (drop l.port-index l.ports) ≡ flat_map port_texts l.ports
