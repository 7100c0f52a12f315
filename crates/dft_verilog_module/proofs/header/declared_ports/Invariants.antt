use Rattle.std.proofs.Common.{◌≡◌, ◌-◌}
use Rattle.dft_netlist_text.specs.NetlistText as spec
use Rattle.dft_verilog_module.specs.PortDeclarations.{port_declaration_as}
use Rattle.dft_verilog_module.proofs.header.declared_ports.Given as goal

-- each turn reads one
abbrev pub invariant-turns : goal.invariant-turns
invariant-turns l = record {
  same : spec.declared_ports l.fn.draft l.fn.tokens ≡ spec.declared_ports_from (l._turn-end - l._turn) (port_declaration_as l.here) l.draft l.tokens;
  library : l.draft.library ≡ l.fn.draft.library;
}
