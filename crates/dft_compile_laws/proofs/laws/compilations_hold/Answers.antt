use Rattle.dft_compile_laws.proofs.Held.{compilations_hold}
use Rattle.dft_compile_laws.proofs.laws.compilations_hold.Goals as goal

pub returns : goal.returns
returns c = compilations_hold
