-- The ports from here on.
use Rattle.std.proofs.Common.{◌≡◌, drop, Some}
use Rattle.dft_configure.specs.Roots.{is_among}
use Rattle.dft_configure.specs.Found.{numbers}
use Rattle.dft_configure.proofs.opening.has_net.Given as goal

abbrev pub invariant-loop-other : goal.invariant-loop-other
invariant-loop-other l = is_among (numbers (drop l.other-index l.ports)) (Some l.net.0) ≡ is_among (numbers l.ports) (Some l.net.0)
