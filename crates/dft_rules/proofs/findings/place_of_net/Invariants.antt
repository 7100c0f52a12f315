-- The rest of the nets has the place that all of them have.
use Rattle.std.proofs.Common.{◌≡◌, ◌==◌, drop}
use Rattle.std.specs.List.{position_from}
use Rattle.dft_rules.proofs.findings.place_of_net.Given as goal

abbrev pub invariant-loop-place : goal.invariant-loop-place
invariant-loop-place l = position_from (λ other. other.0 == l.net.0) 0 l.nets ≡ position_from (λ other. other.0 == l.net.0) l.place (drop l.place l.nets)
