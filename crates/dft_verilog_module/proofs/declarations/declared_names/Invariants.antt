use Rattle.std.proofs.Common.{◌≡◌, ◌-◌}
use Rattle.dft_netlist_text.specs.Items as spec
use Rattle.dft_verilog_module.specs.Declarations.{declaring}
use Rattle.dft_verilog_module.proofs.declarations.declared_names.Given as goal

-- each turn reads one
abbrev pub invariant-turns : goal.invariant-turns
invariant-turns l = record {
  same : spec.declared_names (declaring l.what) l.range l.fn.draft l.fn.tokens ≡ spec.declared_names_from (l._turn-end - l._turn) (declaring l.what) l.range l.draft l.tokens;
  library : l.draft.library ≡ l.fn.draft.library;
}
