-- As many empty lists as there are places before this one.
use Rattle.std.proofs.Common.{◌≡◌, [], replicate}
use Rattle.dft_seek.proofs.showing.empty.Given as goal

abbrev pub invariant-loop-place : goal.invariant-loop-place
invariant-loop-place l = l.table.items ≡ replicate l._place []
