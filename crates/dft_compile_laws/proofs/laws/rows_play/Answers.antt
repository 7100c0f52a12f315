-- Rows play.
use Rattle.dft_compile_laws.proofs.Deciding.{agreed_goes_on}
use Rattle.dft_compile_laws.proofs.Fitting.{signals_fit}
use Rattle.dft_compile_laws.proofs.Listing.{rows_play, signals_at}
use Rattle.dft_compile_laws.proofs.laws.rows_play.Goals as goal

pub returns-clause-signals : goal.returns-clause-signals
returns-clause-signals c = signals_at

pub returns-clause-rows : goal.returns-clause-rows
returns-clause-rows c = rows_play

pub returns-clause-agreed : goal.returns-clause-agreed
returns-clause-agreed c = agreed_goes_on

pub returns-clause-fits : goal.returns-clause-fits
returns-clause-fits c = signals_fit
