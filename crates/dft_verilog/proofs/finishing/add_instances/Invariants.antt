use Rattle.std.proofs.Common.{drop}
use Rattle.dft_verilog.proofs.GrowLemmas.{InstancesAhead}
use Rattle.dft_verilog.proofs.finishing.add_instances.Given as goal

abbrev pub invariant-loop-instance : goal.invariant-loop-instance
invariant-loop-instance l = InstancesAhead l.draft l.instance-items (drop l.instance-index l.instance-items) l.initial.builder l.builder
