use Rattle.dft_configure_laws.proofs.ExampleLemmas.{moves_of_eight, phases_of_eight, ring_of_eight, runs_of_eight}
use Rattle.dft_configure_laws.proofs.examples.worked_ring.Goals as goal

pub returns-clause-ring : goal.returns-clause-ring
returns-clause-ring c = ring_of_eight

pub returns-clause-runs : goal.returns-clause-runs
returns-clause-runs c = runs_of_eight

pub returns-clause-moves : goal.returns-clause-moves
returns-clause-moves c = moves_of_eight

pub returns-clause-phases : goal.returns-clause-phases
returns-clause-phases c = phases_of_eight
