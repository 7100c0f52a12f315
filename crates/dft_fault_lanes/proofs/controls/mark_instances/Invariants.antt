-- The instances before this one are marked.
use Rattle.dft_logic.specs.Circuit.{flag_at}
use Rattle.dft_fault_lanes.proofs.ControlLemmas.{FirstInstances}
use Rattle.dft_fault_lanes.proofs.controls.mark_instances.Given as goal

abbrev pub invariant-loop-instance : goal.invariant-loop-instance
invariant-loop-instance l = FirstInstances l.library l.instances (flag_at l.marked) l.instance-index
