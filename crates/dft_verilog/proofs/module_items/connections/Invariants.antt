use Rattle.std.proofs.Common.{◌≡◌, take, map}
use Rattle.dft_modules.specs.ModuleTexts.{connection_said}
use Rattle.dft_verilog.specs.Passing.{HasPassed}
use Rattle.dft_verilog.specs.SaidParts.{net_or_first}
use Rattle.dft_verilog.proofs.module_items.connections.Given as goal

abbrev pub invariant-loop-one : goal.invariant-loop-one
invariant-loop-one l = record {
  said : l.connections ≡ map (connection_said l.text (net_or_first l.finals)) (take l.one-index l.list);
  passed : HasPassed l.text l.passed;
}
