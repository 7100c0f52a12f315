use Rattle.dft_fault_laws.proofs.Meaning.{faulty_means}
use Rattle.dft_fault_laws.proofs.Bounds.{rank_stays}
use Rattle.dft_fault_laws.proofs.laws.faulty_means.Goals as goal

pub returns : goal.returns
returns c = record { means = faulty_means; rank = rank_stays }
