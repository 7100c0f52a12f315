use Rattle.std.proofs.Common.{drop, map}
use Rattle.dft_scan_frame.specs.Growing.{instance_things, with_things}
use Rattle.dft_scan_frame.proofs.Completing.{Completes}
use Rattle.dft_faults.specs.Faulty.{loosened}
use Rattle.dft_faults.proofs.stuck.carry_instances.Given as goal

abbrev pub invariant-loop-instance : goal.invariant-loop-instance
invariant-loop-instance l =
    Completes (with_things l.initial.builder (instance_things (map (loosened l.cells l.net.0) l.instances))) l.builder (instance_things (map (loosened l.cells l.net.0) (drop l.instance-index l.instances)))
