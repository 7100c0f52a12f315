use Rattle.dft_netlist_reader.proofs.JoinedDesigns.{flat_joined}
use Rattle.dft_netlist_reader.proofs.laws.designs_can_be_written.Goals as goal

pub returns : goal.returns
returns c = flat_joined
