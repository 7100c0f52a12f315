use Rattle.std.proofs.Common.{◌≡◌, drop, map}
use Rattle.dft_modules.specs.ModuleTexts.{cell_said}
use Rattle.dft_verilog.specs.SaidParts.{net_or_first, with_items}
use Rattle.dft_verilog.proofs.module_items.add_cells.Given as goal

-- the cells ahead are to be added
abbrev pub invariant-loop-instance : goal.invariant-loop-instance
invariant-loop-instance l = with_items (map (cell_said (net_or_first l.finals)) (drop l.instance-index l.instances)) l.made ≡ with_items (map (cell_said (net_or_first l.finals)) l.instances) l.initial.made
