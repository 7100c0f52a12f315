use Rattle.std.proofs.Common.{◌≡◌, ◌-◌}
use Rattle.dft_netlist_text.specs.Items as spec
use Rattle.dft_verilog_module.proofs.assignments.net_assignments.Given as goal

-- each turn reads one
abbrev pub invariant-turns : goal.invariant-turns
invariant-turns l = record {
  same : spec.net_assignments l.fn.draft l.fn.tokens ≡ spec.net_assignments_from (l._turn-end - l._turn) l.draft l.tokens;
  library : l.draft.library ≡ l.fn.draft.library;
}
