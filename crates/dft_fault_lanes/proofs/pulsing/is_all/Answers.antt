-- As where it is the value in each lane.
use Rattle.std.proofs.Common.{◌∙◌}
use Rattle.dft_evaluator.proofs.WideLemmas.{value_is}
use Rattle.dft_fault_lanes.proofs.pulsing.is_all.Goals as goal

pub returns : goal.returns
returns c = λ up lane within. c.are_same.ensures up lane within ∙ value_is c.all.result (λ p. c.args.value) c.all.ensures lane within
