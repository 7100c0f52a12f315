-- The rest of the connections gives what all of them give.
use Rattle.std.proofs.Common.{◌≡◌, not, find, drop}
use Rattle.dft_hier.specs.Refusals.{fits}
use Rattle.dft_hier.proofs.fitting.check_sub.Given as goal

abbrev pub invariant-loop-connection : goal.invariant-loop-connection
invariant-loop-connection l = find (λ c. not (fits l.owner.ports c)) l.sub.connections ≡ find (λ c. not (fits l.owner.ports c)) (drop l.connection-index l.sub.connections)
