use Rattle.dft_netlist.specs.OrderSteps.{IsBetween}
use Rattle.dft_netlist.proofs.order.find_order.Given as goal

abbrev pub invariant-loop-number : goal.invariant-loop-number
invariant-loop-number l = IsBetween l.builder l.number l.progress
