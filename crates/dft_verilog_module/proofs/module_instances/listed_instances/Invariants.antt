use Rattle.std.proofs.Common.{◌≡◌, ◌-◌}
use Rattle.dft_netlist_text.specs.Steps.{left}
use Rattle.dft_modules.specs.SubInstances as spec
use Rattle.dft_verilog_module.specs.SaidModules.{said}
use Rattle.dft_verilog_module.proofs.module_instances.listed_instances.Given as goal

-- each turn reads one
abbrev pub invariant-turns : goal.invariant-turns
invariant-turns l = record {
  same : spec.sub_instances_from (left l.fn.tokens) l.of (said l.fn.draft l.fn.subs.items) l.fn.tokens ≡ spec.sub_instances_from (l._turn-end - l._turn) l.of (said l.draft l.subs.items) l.tokens;
  library : l.draft.library ≡ l.fn.draft.library;
}
