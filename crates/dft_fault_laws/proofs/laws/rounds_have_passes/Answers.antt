use Rattle.dft_fault_laws.proofs.Passes.{pass_of_bound, round_of_passes, round_of_rises}
use Rattle.dft_fault_laws.proofs.laws.rounds_have_passes.Goals as goal

pub returns : goal.returns
returns c = record { pass = pass_of_bound; both = round_of_passes; rises = round_of_rises }
