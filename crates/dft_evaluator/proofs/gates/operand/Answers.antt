-- A loose pin can be either.
use Rattle.dft_evaluator.proofs.BitLemmas.{all_unknown}
use Rattle.dft_evaluator.proofs.gates.operand.Goals as goal

pub returns-in-Loose : goal.returns-in-Loose
returns-in-Loose c = rw (c.unknown.ensures, c.in-Loose.is) all_unknown
