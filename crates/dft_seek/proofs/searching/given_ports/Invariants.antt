-- Those so far, with the others.
use Rattle.std.proofs.Common.{◌≡◌, ◌++◌, drop}
use Rattle.dft_seek.specs.Turns.{paired}
use Rattle.dft_seek.proofs.searching.given_ports.Given as goal

abbrev pub invariant-loop-place : goal.invariant-loop-place
invariant-loop-place l = l.given.items ++ paired (drop l.place l.ports) (drop l.place l.bits) ≡ paired l.ports l.bits
