use Rattle.dft_top.proofs.Completed.{completes_for}
use Rattle.dft_top.proofs.Failing.{fails_for, ungraded_for}
use Rattle.dft_top.proofs.JobEnds.{generates_for}
use Rattle.dft_top.proofs.JobFits.{jobs_fit}
use Rattle.dft_top.proofs.JobReplays.{jobs_pass}
use Rattle.dft_top.proofs.Kept.{kept_for}
use Rattle.dft_top.proofs.Promised.{certifies_for, compiles_for, configures_for, grades_for, passes_for, scans_for}
use Rattle.dft_top.proofs.SeekPromised.{seeks_for}
use Rattle.dft_top.proofs.Sized.{sized_for}
use Rattle.dft_top.proofs.command.run.Goals as goal

pub returns-in-Ok-clause-passes : goal.returns-in-Ok-clause-passes
returns-in-Ok-clause-passes g c = passes_for _ _ _ _ _ c.in-Ok.ensures c.run_command.ensures

pub returns-in-Ok-clause-fails : goal.returns-in-Ok-clause-fails
returns-in-Ok-clause-fails g c = fails_for _ _ _ _ _ c.in-Ok.ensures c.run_command.ensures

pub returns-in-Ok-clause-generates : goal.returns-in-Ok-clause-generates
returns-in-Ok-clause-generates g c = generates_for (jobs_pass c.compilations_hold.ensures) (jobs_fit c.compilations_hold.ensures) _ _ _ _ _ c.in-Ok.ensures c.run_command.ensures

pub returns-in-Ok-clause-scans : goal.returns-in-Ok-clause-scans
returns-in-Ok-clause-scans g c = scans_for _ _ _ _ _ c.in-Ok.ensures c.run_command.ensures

pub returns-in-Ok-clause-compiles : goal.returns-in-Ok-clause-compiles
returns-in-Ok-clause-compiles g c = compiles_for c.compilations_hold.ensures _ _ _ _ _ c.in-Ok.ensures c.run_command.ensures

pub returns-in-Ok-clause-kept : goal.returns-in-Ok-clause-kept
returns-in-Ok-clause-kept g c = kept_for _ _ _ _ _ c.in-Ok.ensures c.run_command.ensures

pub returns-in-Ok-clause-certifies : goal.returns-in-Ok-clause-certifies
returns-in-Ok-clause-certifies g c = certifies_for c.reports_are_certified.ensures.exact c.certified_in_runs.ensures _ _ _ _ _ c.in-Ok.ensures c.run_command.ensures

pub returns-in-Ok-clause-completes : goal.returns-in-Ok-clause-completes
returns-in-Ok-clause-completes g c = completes_for (jobs_pass c.compilations_hold.ensures) _ _ _ _ _ c.in-Ok.ensures c.run_command.ensures

pub returns-in-Ok-clause-grades : goal.returns-in-Ok-clause-grades
returns-in-Ok-clause-grades g c = grades_for _ _ _ _ _ c.in-Ok.ensures c.run_command.ensures

pub returns-in-Ok-clause-ungraded : goal.returns-in-Ok-clause-ungraded
returns-in-Ok-clause-ungraded g c = ungraded_for _ _ _ _ _ c.in-Ok.ensures c.run_command.ensures

pub returns-in-Ok-clause-configures : goal.returns-in-Ok-clause-configures
returns-in-Ok-clause-configures g c = configures_for _ _ _ _ _ c.in-Ok.ensures c.run_command.ensures

pub returns-in-Ok-clause-seeks : goal.returns-in-Ok-clause-seeks
returns-in-Ok-clause-seeks g c = seeks_for _ _ _ _ _ c.in-Ok.ensures c.run_command.ensures

pub run_command-requires-clause-sized : goal.run_command-requires-clause-sized
run_command-requires-clause-sized g c = sized_for _ _ c.in-Ok.ensures
