-- The names so far, and those of the nets that are left.
use Rattle.std.proofs.Common.{◌≡◌, ◌++◌, drop}
use Rattle.dft_configure.specs.Found.{numbers}
use Rattle.dft_configuring.specs.Rooted.{names_of_nets}
use Rattle.dft_configuring.proofs.rooting.names_of_nets.Given as goal

abbrev pub invariant-loop-net : goal.invariant-loop-net
invariant-loop-net l = l.names.items ++ names_of_nets l.design (numbers (drop l.net-index l.nets)) ≡ names_of_nets l.design (numbers l.nets)
