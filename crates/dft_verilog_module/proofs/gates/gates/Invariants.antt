use Rattle.std.proofs.Common.{◌≡◌, ◌-◌}
use Rattle.dft_netlist_text.specs.Items as spec
use Rattle.dft_verilog_module.proofs.gates.gates.Given as goal

-- each turn reads one
abbrev pub invariant-turns : goal.invariant-turns
invariant-turns l = record {
  same : spec.gates l.kind l.fn.draft l.fn.tokens ≡ spec.gates_from (l._turn-end - l._turn) l.kind l.draft l.tokens;
  library : l.draft.library ≡ l.fn.draft.library;
}
