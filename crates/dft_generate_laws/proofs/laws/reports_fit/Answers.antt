use Rattle.dft_generate_laws.proofs.Reported.{reports_fit}
use Rattle.dft_generate_laws.proofs.laws.reports_fit.Goals as goal

pub returns : goal.returns
returns c = reports_fit
