use Rattle.std.proofs.Common.{◌≡◌, ◌++◌, map, drop}
use Rattle.dft_netlist.specs.declared.port.Port.{Port}
use Rattle.dft_verilog_out.specs.Written.{name_text, list_text, list_text_behind}
use Rattle.dft_verilog_out.proofs.declarations.add_port_names.Given as goal

abbrev pub invariant-loop-port : goal.invariant-loop-port
invariant-loop-port l =
    l.out.items ++ list_text_behind l.before (map (λ (p : Port). name_text p.name) (drop l.port-index l.ports))
    ≡ l.fn.out.items ++ list_text (map (λ (p : Port). name_text p.name) l.ports)
