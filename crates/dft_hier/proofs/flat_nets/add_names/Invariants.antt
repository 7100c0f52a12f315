use Rattle.std.proofs.Common.{◌++◌}
use Rattle.dft_hier.proofs.GrowLemmas.{NamesSoFar}
use Rattle.dft_hier.proofs.flat_nets.add_names.Given as goal

abbrev pub invariant-loop-name : goal.invariant-loop-name
invariant-loop-name l = NamesSoFar (λ name. l.prefix ++ name) l.names l.name-index l.initial.builder l.builder
