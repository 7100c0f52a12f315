-- As many as there are cells.
use Rattle.std.proofs.Common.{◌∙◌, ap, length, sym}
use Rattle.dft_base.proofs.ListLemmas.{refilled_length}
use Rattle.dft_fault_lanes.proofs.grouping.cells_before.Goals as goal

pub find_before-requires : goal.find_before-requires
find_before-requires c = ap length c.deref_mut.ensures.value ∙ sym c.in_ok-before.before.ok.0 ∙ c.in_ok-before.ensures.len

pub returns : goal.returns
returns c = refilled_length c.in_ok-before.before c.find_before.new.before ∙ sym c.in_ok-before.before.ok.0 ∙ c.in_ok-before.ensures.len
