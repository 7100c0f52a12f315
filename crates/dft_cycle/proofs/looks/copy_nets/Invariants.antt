-- The nets before this one are copied.
use Rattle.std.proofs.Common.{◌≡◌, take}
use Rattle.std.specs.Vec.{vec_capacity}
use Rattle.dft_cycle.proofs.looks.copy_nets.Given as goal

abbrev pub invariant-loop-net : goal.invariant-loop-net
invariant-loop-net l = (l.list.items ≡ take l.net-index l.nets) × (vec_capacity l.list ≡ vec_capacity l.initial.list)
