-- The scan enable, and what it lets through.
use Rattle.dft_logic.specs.Circuit.{source_at}
use Rattle.dft_fault_lanes.proofs.MarkLemmas.{marks_both}
use Rattle.dft_fault_lanes.proofs.marking.mark_reads.Goals as goal

pub returns-in-Some : goal.returns-in-Some
returns-in-Some c =
    rw c.in-Some.is (marks_both c.args.marked.now _ _ (source_at c.in-Some.scan.enable) _ c.mark_operand-in-Some.ensures (rw c.enable_value.ensures at c.mark_chosen.ensures))
