use Rattle.std.proofs.Common.{◌≡◌, ◌-◌}
use Rattle.dft_netlist_text.specs.NetlistText as spec
use Rattle.dft_verilog_module.proofs.header.announced_names.Given as goal

-- each turn reads one
abbrev pub invariant-turns : goal.invariant-turns
invariant-turns l = record {
  same : spec.announced_names l.fn.draft l.fn.tokens ≡ spec.announced_names_from (l._turn-end - l._turn) l.draft l.tokens;
  library : l.draft.library ≡ l.fn.draft.library;
}
