-- The pins so far, and the rest of them.
use Rattle.std.proofs.Common.{map}
use Rattle.dft_netlist.specs.Drivers.{shape_of, connections_of}
use Rattle.dft_logic.specs.Compiling.{wired_by}
use Rattle.dft_logic.proofs.WireLemmas.{Wiring}
use Rattle.dft_logic.proofs.wires.wires.Given as goal

abbrev pub invariant-loop-pin : goal.invariant-loop-pin
invariant-loop-pin l = Wiring (shape_of l.library l.instance.cell).roles l.instance.pins l.number.0 (map (wired_by l.number.0) (connections_of l.library l.instance)) l.wires.items l.pin
