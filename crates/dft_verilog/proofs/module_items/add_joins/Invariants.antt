use Rattle.std.proofs.Common.{◌≡◌, drop, map}
use Rattle.dft_modules.specs.ModuleTexts.{join_said}
use Rattle.dft_verilog.specs.SaidParts.{net_or_first, with_items}
use Rattle.dft_verilog.proofs.module_items.add_joins.Given as goal

-- the joins ahead are to be added
abbrev pub invariant-loop-one : goal.invariant-loop-one
invariant-loop-one l = with_items (map (join_said (net_or_first l.finals)) (drop l.one-index l.joins)) l.made ≡ with_items (map (join_said (net_or_first l.finals)) l.joins) l.initial.made
