use Rattle.dft_netlist_laws.proofs.Whole.{concatenations_nest}
use Rattle.dft_netlist_laws.proofs.laws.concatenations_nest.Goals as goal

pub returns : goal.returns
returns c = concatenations_nest
