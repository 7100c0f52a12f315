use Rattle.dft_hier.proofs.OneModule.{one_module_gives}
use Rattle.dft_hier.proofs.laws.one_module_gives_its_design.Goals as goal

pub returns : goal.returns
returns c = one_module_gives
