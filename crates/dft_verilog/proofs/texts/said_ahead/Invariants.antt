use Rattle.std.proofs.Common.{◌≡◌, ◌-◌, []}
use Rattle.dft_netlist_text.specs.Steps.{left}
use Rattle.dft_modules.specs.ModuleTexts.{modules_from}
use Rattle.dft_verilog.specs.Passing.{HasPassed}
use Rattle.dft_verilog.proofs.texts.said_ahead.Given as goal

-- each turn reads one
abbrev pub invariant-turns : goal.invariant-turns
invariant-turns l = record {
  same : modules_from (left l.fn.tokens) l.text l.cells [] [] l.fn.tokens ≡ modules_from (l._turn-end - l._turn) l.text l.cells l.names l.modules.items l.tokens;
  library : l.library ≡ l.cells;
  passed : HasPassed l.text l.passed;
  first : l.modules.items ≡ [] → (l.names ≡ []) × (l.tokens ≡ l.fn.tokens);
}
