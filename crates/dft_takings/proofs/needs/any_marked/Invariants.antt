-- The nets before this one are not marked.
use Rattle.std.proofs.Common.{ℕ, false, ◌≡◌, ◌⊎◌, drop}
use Rattle.dft_netlist.specs.Orders.{Has}
use Rattle.dft_logic.specs.Circuit.{flag_at}
use Rattle.dft_takings.proofs.needs.any_marked.Given as goal

abbrev pub invariant-loop-net : goal.invariant-loop-net
invariant-loop-net l = (k : ℕ) → Has l.nets k → (flag_at l.marked k ≡ false) ⊎ Has (drop l.net-index l.nets) k
