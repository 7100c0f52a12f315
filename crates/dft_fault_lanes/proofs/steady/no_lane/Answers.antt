-- 0 in each lane.
use Rattle.dft_evaluator.proofs.WideLemmas.{wide_is}
use Rattle.dft_fault_lanes.proofs.SteadyLemmas.{none_live}
use Rattle.dft_fault_lanes.proofs.steady.no_lane.Goals as goal

pub returns-clause-none : goal.returns-clause-none
returns-clause-none c = none_live c.all.result c.all.ensures

pub returns-clause-wide : goal.returns-clause-wide
returns-clause-wide c = wide_is c.all.result _ c.all.ensures
