use Rattle.std.proofs.Common.{◌≡◌, ◌++◌, flat_map, drop}
use Rattle.dft_verilog_out.specs.Written.{join_line}
use Rattle.dft_verilog_out.proofs.instances.add_joins.Given as goal

abbrev pub invariant-loop-join : goal.invariant-loop-join
invariant-loop-join l = l.out.items ++ flat_map (join_line l.nets) (drop l.join-index l.joins) ≡ l.fn.out.items ++ flat_map (join_line l.nets) l.joins
