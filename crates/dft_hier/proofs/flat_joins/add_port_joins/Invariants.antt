use Rattle.dft_hier.specs.Flat.{moved, moved_net, port_joins}
use Rattle.std.proofs.Common.{map}
use Rattle.dft_hier.specs.Moving.{with_joins}
use Rattle.dft_hier.proofs.JoinLemmas.{BitsLeft}
use Rattle.dft_hier.proofs.flat_joins.add_port_joins.Given as goal

abbrev pub invariant-loop-place : goal.invariant-loop-place
invariant-loop-place l = BitsLeft l.builder (with_joins l.initial.builder (port_joins l.port.dir (map (moved_net l.within) l.port.bits) (map (moved l.outside) l.signals))) l.port.dir l.within l.outside l.port.bits l.signals l.place
