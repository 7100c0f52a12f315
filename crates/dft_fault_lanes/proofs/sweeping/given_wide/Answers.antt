-- A free net can be either.
use Rattle.dft_evaluator.proofs.BitLemmas.{all_unknown}
use Rattle.dft_fault_lanes.proofs.sweeping.given_wide.Goals as goal

pub returns-in-Free : goal.returns-in-Free
returns-in-Free c = rw (c.unknown.ensures, c.in-Free.is) all_unknown
