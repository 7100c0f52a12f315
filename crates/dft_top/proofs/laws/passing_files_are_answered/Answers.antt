use Rattle.dft_top.proofs.PassingFiles.{passing_certified, passing_compiled, passing_graded, passing_replayed, passing_scanned, passing_configured, passing_sought}
use Rattle.dft_top.proofs.laws.passing_files_are_answered.Goals as goal

pub returns-clause-replayed : goal.returns-clause-replayed
returns-clause-replayed c = passing_replayed

pub returns-clause-scanned : goal.returns-clause-scanned
returns-clause-scanned c = passing_scanned

pub returns-clause-compiled : goal.returns-clause-compiled
returns-clause-compiled c = passing_compiled

pub returns-clause-certified : goal.returns-clause-certified
returns-clause-certified c = passing_certified

pub returns-clause-graded : goal.returns-clause-graded
returns-clause-graded c = passing_graded

pub returns-clause-configured : goal.returns-clause-configured
returns-clause-configured c = passing_configured

pub returns-clause-sought : goal.returns-clause-sought
returns-clause-sought c = passing_sought
