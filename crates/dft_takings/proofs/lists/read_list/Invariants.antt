-- The nets before this one are read.
use Rattle.std.proofs.Common.{◌≡◌, map, take}
use Rattle.dft_netlist.specs.declared.ids.NetId.{NetId}
use Rattle.dft_logic.specs.Values.{value_at}
use Rattle.dft_takings.proofs.lists.read_list.Given as goal

abbrev pub invariant-loop-place : goal.invariant-loop-place
invariant-loop-place l = take l.place l.row ≡ map (λ (net : NetId). value_at l.values net.0) (take l.place l.nets)
