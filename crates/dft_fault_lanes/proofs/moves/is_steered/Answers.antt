-- Where the enable's value is 1 it is the steer's.
use Rattle.std.proofs.Common.{◌∙◌, sym}
use Rattle.dft_logic.specs.Circuit.{source_at}
use Rattle.dft_fault_lanes.proofs.GroupLemmas.{one_is}
use Rattle.dft_fault_lanes.proofs.MoveLemmas.{steer_found}
use Rattle.dft_fault_lanes.proofs.moves.is_steered.Goals as goal

pub returns-clause-value : goal.returns-clause-value
returns-clause-value c = λ up. (steer_found c.args.steer (source_at c.args.enable.now) (sym c.enable_value.ensures ∙ one_is c.enable_value.result (sym c.is_one.ensures ∙ up))).0

pub returns-clause-net : goal.returns-clause-net
returns-clause-net c = λ up. (steer_found c.args.steer (source_at c.args.enable.now) (sym c.enable_value.ensures ∙ one_is c.enable_value.result (sym c.is_one.ensures ∙ up))).1
