-- The cells before this one take their bits at rises.
use Rattle.std.proofs.Common.{ℕ, false, ◌≡◌, ◌⊎◌, drop, map}
use Rattle.dft_netlist.specs.Orders.{Has}
use Rattle.dft_logic.specs.Circuit.{cell_of, cell_at}
use Rattle.dft_cycle.proofs.machine.falls_in.Given as goal

abbrev pub invariant-loop-cell : goal.invariant-loop-cell
invariant-loop-cell l = (k : ℕ) → Has l.cells k → ((cell_at (map cell_of l.circuit.flops) k).falling ≡ false) ⊎ Has (drop l.cell-index l.cells) k
