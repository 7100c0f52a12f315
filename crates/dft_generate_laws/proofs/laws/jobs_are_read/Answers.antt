use Rattle.dft_generate_laws.proofs.JobLaws.{jobs_are_read}
use Rattle.dft_generate_laws.proofs.laws.jobs_are_read.Goals as goal

pub returns : goal.returns
returns c = jobs_are_read
