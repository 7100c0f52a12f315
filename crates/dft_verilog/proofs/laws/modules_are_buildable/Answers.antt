use Rattle.dft_verilog.proofs.GrammarLemmas.{modules_buildable}
use Rattle.dft_verilog.proofs.laws.modules_are_buildable.Goals as goal

pub returns : goal.returns
returns c = modules_buildable
