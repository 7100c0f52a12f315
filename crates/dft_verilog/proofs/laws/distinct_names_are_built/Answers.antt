use Rattle.dft_verilog.proofs.BuildableLemmas.{buildable_are_built}
use Rattle.dft_verilog.proofs.laws.distinct_names_are_built.Goals as goal

pub returns : goal.returns
returns c = buildable_are_built
