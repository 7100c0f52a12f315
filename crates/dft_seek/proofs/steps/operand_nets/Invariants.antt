-- The nets of the operands so far, with those of the others.
use Rattle.std.proofs.Common.{◌≡◌, ◌++◌, drop, map}
use Rattle.dft_netlist.specs.Drivers.{nets_of}
use Rattle.dft_netlist.specs.Orders.{numbers_of}
use Rattle.dft_logic.specs.Circuit.{source_at}
use Rattle.dft_seek.proofs.steps.operand_nets.Given as goal

abbrev pub invariant-loop-input : goal.invariant-loop-input
invariant-loop-input l = numbers_of l.nets.items ++ nets_of (map source_at (drop l.input-index l.inputs)) ≡ nets_of (map source_at l.inputs)
