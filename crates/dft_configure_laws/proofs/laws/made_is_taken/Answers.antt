use Rattle.dft_configure_laws.proofs.TakenLemmas.{compiles_pass, scans_pass, texts_taken}
use Rattle.dft_configure_laws.proofs.laws.made_is_taken.Goals as goal

pub returns-clause-text : goal.returns-clause-text
returns-clause-text c = texts_taken

pub returns-clause-compile : goal.returns-clause-compile
returns-clause-compile c = compiles_pass

pub returns-clause-scan : goal.returns-clause-scan
returns-clause-scan c = scans_pass
