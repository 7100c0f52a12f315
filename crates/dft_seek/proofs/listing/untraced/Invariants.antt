-- The first faults that are left.
use Rattle.std.proofs.Common.{◌≡◌, filter, take}
use Rattle.dft_seek.specs.SoughtFaults.{is_left}
use Rattle.dft_seek.proofs.listing.untraced.Given as goal

abbrev pub invariant-loop-fault : goal.invariant-loop-fault
invariant-loop-fault l = l.left.items ≡ filter (is_left l.roots l.ports) (take l.fault-index l.faults)
