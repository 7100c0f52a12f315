use Rattle.dft_runs.proofs.Existence.{choices_run}
use Rattle.dft_runs.proofs.Orders.{orders_exist, runs_exist}
use Rattle.dft_runs.proofs.laws.runs_exist.Goals as goal

pub returns : goal.returns
returns c = record { choices = choices_run; orders = orders_exist; runs = runs_exist }
