-- The nets before this one have their flags.
use Rattle.std.proofs.Common.{◌≡◌, map, take}
use Rattle.dft_netlist.specs.declared.ids.NetId.{NetId}
use Rattle.dft_logic.specs.Circuit.{flag_at}
use Rattle.dft_cycle.proofs.plans.read_flags.Given as goal

abbrev pub invariant-loop-place : goal.invariant-loop-place
invariant-loop-place l = take l.place l.row ≡ map (λ (net : NetId). flag_at l.flags net.0) (take l.place l.nets)
