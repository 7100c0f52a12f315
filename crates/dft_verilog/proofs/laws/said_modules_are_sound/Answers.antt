use Rattle.dft_verilog.proofs.KeptModuleLemmas.{said_are_modules}
use Rattle.dft_verilog.proofs.laws.said_modules_are_sound.Goals as goal

pub returns : goal.returns
returns c = said_are_modules
