-- The nets before this one are the same.
use Rattle.std.proofs.Common.{◌≡◌, take}
use Rattle.dft_cycle.proofs.looks.same_nets.Given as goal

abbrev pub invariant-loop-place : goal.invariant-loop-place
invariant-loop-place l = take l.place l.one ≡ take l.place l.other
