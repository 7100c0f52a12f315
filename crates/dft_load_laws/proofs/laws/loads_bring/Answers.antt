-- Chains fit loads, and sums are loads.
use Rattle.dft_stitch.proofs.LengthLemmas.{chains_fit}
use Rattle.dft_load_laws.proofs.Sums.{sums_are_loads}
use Rattle.dft_load_laws.proofs.laws.loads_bring.Goals as goal

pub returns-clause-fit : goal.returns-clause-fit
returns-clause-fit c = chains_fit

pub returns-clause-sums : goal.returns-clause-sums
returns-clause-sums c = sums_are_loads
