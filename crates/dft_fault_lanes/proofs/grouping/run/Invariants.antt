-- Each lane holds before this vector.
use Rattle.std.proofs.Common.{true, ◌≡◌, length}
use Rattle.dft_netlist.specs.Orders.{numbers_of}
use Rattle.dft_evaluator.specs.Wides.{AreWides, IsWide, value_in}
use Rattle.dft_fault_lanes.specs.Idle.{AreIdleUnknown}
use Rattle.dft_fault_lanes.specs.Made.{HasRoom, IsPlan}
use Rattle.dft_fault_lanes.proofs.GroupLemmas.{Running}
use Rattle.dft_fault_lanes.proofs.grouping.run.Given as goal

abbrev pub invariant-loop-vector : goal.invariant-loop-vector
invariant-loop-vector l =
    Running l.group.circuit.now l.group.clamps.now (numbers_of l.group.nets.now) l.vectors l.ports l.cells.values l.live l.found l.vector
    × (AreWides l.wides × (AreWides l.later × (AreWides l.cells.values × (IsWide l.live (value_in l.live)
    × (HasRoom l.group.circuit.now (length l.group.nets.now) l.plan × ((l.plan.made ≡ true → IsPlan l.group.circuit.now l.group.clamps.now l.cells.layout l.group.nets.now l.plan) × ((length l.cells.values ≡ length l.group.circuit.now.flops) × AreIdleUnknown l.group.circuit.now.flops l.cells.values)))))))
