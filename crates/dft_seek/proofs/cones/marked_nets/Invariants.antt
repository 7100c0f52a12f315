-- Those of the first ones.
use Rattle.std.proofs.Common.{◌≡◌, filter, take}
use Rattle.dft_logic.specs.Circuit.{flag_at}
use Rattle.dft_seek.proofs.cones.marked_nets.Given as goal

abbrev pub invariant-loop-net : goal.invariant-loop-net
invariant-loop-net l = l.left.items ≡ filter (λ net. flag_at l.marked net.0) (take l.net-index l.nets)
