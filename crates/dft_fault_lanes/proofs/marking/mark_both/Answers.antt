-- One net, and one more.
use Rattle.std.proofs.Common.{[], ◌∷◌}
use Rattle.dft_logic.specs.Circuit.{source_at}
use Rattle.dft_fault_lanes.proofs.MarkLemmas.{marks_both}
use Rattle.dft_fault_lanes.proofs.marking.mark_both.Goals as goal

pub returns : goal.returns
returns c = marks_both c.args.marked.now _ _ (source_at c.args.first.now) (source_at c.args.second.now ∷ []) c.mark_operand.ensures c.mark_operand-2.ensures
