use Rattle.std.proofs.Common.{refl}
use Rattle.dft_faults.proofs.examples.worked_faults.Goals as goal

pub returns : goal.returns
returns c = record { lists = record { all = refl; of_clock = refl }; keeps = refl }
