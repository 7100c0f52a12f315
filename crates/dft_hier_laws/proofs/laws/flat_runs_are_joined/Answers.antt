use Rattle.dft_hier_laws.proofs.LogicByNumbers.{flat_runs_are_joined}
use Rattle.dft_hier_laws.proofs.laws.flat_runs_are_joined.Goals as goal

pub returns : goal.returns
returns c = flat_runs_are_joined
