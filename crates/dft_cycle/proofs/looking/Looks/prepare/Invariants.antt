-- The looks so far are at no net.
use Rattle.std.proofs.Common.{◌≡◌, All, length}
use Rattle.dft_cycle.specs.Looks.{IsLook}
use Rattle.dft_cycle.proofs.looking.Looks.prepare.Given as goal

abbrev pub invariant-loop-place : goal.invariant-loop-place
invariant-loop-place l = All (IsLook l.circuit) l.looks.items × (length l.looks.items ≡ l._place)
