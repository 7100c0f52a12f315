use Rattle.dft_hier.proofs.FitLemmas.{PortsSoFar}
use Rattle.dft_hier.proofs.fitting.all_ports.Given as goal

abbrev pub invariant-loop-owner : goal.invariant-loop-owner
invariant-loop-owner l = PortsSoFar l.modules l.owner-index l.all.items
