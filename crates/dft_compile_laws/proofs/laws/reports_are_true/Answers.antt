-- Reports of cubes.
use Rattle.dft_compile_laws.proofs.Reported.{encoded_brought, entries_exact, unscanned_skipped}
use Rattle.dft_compile_laws.proofs.laws.reports_are_true.Goals as goal

pub returns-clause-encoded : goal.returns-clause-encoded
returns-clause-encoded c = encoded_brought

pub returns-clause-skipped : goal.returns-clause-skipped
returns-clause-skipped c = unscanned_skipped

pub returns-clause-exact : goal.returns-clause-exact
returns-clause-exact c = entries_exact
