use Rattle.dft_behavior.specs.Logic.{logic_of}
use Rattle.dft_behavior.proofs.Ranks.{order_is_rank}
use Rattle.dft_runs.proofs.Existence.{choices_run}
use Rattle.dft_replay.specs.Rows.{rows_of, ports_of}
use Rattle.dft_replay.specs.Laws.{vectors_of}
use Rattle.dft_replay.proofs.laws.every_choice_runs.Goals as goal

pub returns : goal.returns
returns c = λ n rank p start choices order low orders.
    choices_run (logic_of n (ports_of n p)) rank (vectors_of (rows_of n p)) start choices (order_is_rank n (ports_of n p) rank order) low orders
