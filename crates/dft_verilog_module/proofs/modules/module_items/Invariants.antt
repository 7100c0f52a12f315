use Rattle.std.proofs.Common.{◌≡◌, ◌-◌}
use Rattle.dft_modules.specs.SubInstances as spec
use Rattle.dft_verilog_module.specs.SaidModules.{said}
use Rattle.dft_verilog_module.proofs.modules.module_items.Given as goal

-- each turn reads one
abbrev pub invariant-turns : goal.invariant-turns
invariant-turns l = record {
  same : spec.module_items (said l.fn.draft l.fn.subs.items) l.fn.tokens ≡ spec.module_items_from (l._turn-end - l._turn) (said l.draft l.subs.items) l.tokens;
  library : l.draft.library ≡ l.library;
}
