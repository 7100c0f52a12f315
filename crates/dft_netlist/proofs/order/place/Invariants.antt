use Rattle.std.proofs.Common.{◌≡◌, Some, slice_get}
use Rattle.dft_netlist.specs.declared.progress.State.TheVariants.{New}
use Rattle.dft_netlist.specs.OrderSteps.{IsUnderWay}
use Rattle.dft_netlist.proofs.Weights.{weight}
use Rattle.dft_netlist.proofs.order.place.Given as goal

abbrev pub invariant-loop-net : goal.invariant-loop-net
invariant-loop-net l = record {
  way : IsUnderWay l.builder l.fn.start.0 l.progress;
  started : slice_get l.progress.states l.fn.start.0 ≡ Some New → ⊥;
}

abbrev pub decreases-loop-net : goal.decreases-loop-net
decreases-loop-net l = weight l.progress.states
