use Rattle.std.proofs.Common.{◌≡◌, ◌++◌, flat_map, drop}
use Rattle.dft_verilog_out.specs.Written.{instance_line}
use Rattle.dft_verilog_out.proofs.instances.add_instances.Given as goal

abbrev pub invariant-loop-instance : goal.invariant-loop-instance
invariant-loop-instance l = l.out.items ++ flat_map (instance_line l.cells l.nets) (drop l.instance-index l.instances) ≡ l.fn.out.items ++ flat_map (instance_line l.cells l.nets) l.instances
