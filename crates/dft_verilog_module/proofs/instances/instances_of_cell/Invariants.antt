use Rattle.std.proofs.Common.{◌≡◌, ◌-◌}
use Rattle.dft_netlist_text.specs.Items as spec
use Rattle.dft_netlist_text.specs.Steps.{left}
use Rattle.dft_verilog_module.proofs.instances.instances_of_cell.Given as goal

-- each turn reads one
abbrev pub invariant-turns : goal.invariant-turns
invariant-turns l = record {
  same : spec.instances_from (left l.fn.tokens) l.id l.cell l.fn.draft l.fn.tokens ≡ spec.instances_from (l._turn-end - l._turn) l.id l.cell l.draft l.tokens;
  library : l.draft.library ≡ l.fn.draft.library;
}
