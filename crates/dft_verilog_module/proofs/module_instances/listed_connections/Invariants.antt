use Rattle.std.proofs.Common.{◌≡◌, ◌-◌}
use Rattle.dft_netlist_text.specs.Steps.{left}
use Rattle.dft_modules.specs.SubInstances as spec
use Rattle.dft_verilog_draft.specs.Operands.{Grows}
use Rattle.dft_verilog_module.proofs.module_instances.listed_connections.Given as goal

-- each turn reads one
abbrev pub invariant-turns : goal.invariant-turns
invariant-turns l = record {
  same : spec.port_connections_from (left l.fn.tokens) (l.fn.draft, l.fn.connections) l.fn.tokens ≡ spec.port_connections_from (l._turn-end - l._turn) (l.draft, l.connections) l.tokens;
  grown : Grows l.fn.draft l.draft;
}
