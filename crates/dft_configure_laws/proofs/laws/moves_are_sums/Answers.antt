use Rattle.dft_configure_laws.proofs.MoveLemmas.{apart_is_plain, moves_sum}
use Rattle.dft_configure_laws.proofs.laws.moves_are_sums.Goals as goal

pub returns-clause-sums : goal.returns-clause-sums
returns-clause-sums c = moves_sum

pub returns-clause-apart : goal.returns-clause-apart
returns-clause-apart c = apart_is_plain
