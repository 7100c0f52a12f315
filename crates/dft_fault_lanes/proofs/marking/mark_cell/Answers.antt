-- The scan enable, and what else is read where the cell is not carried.
use Rattle.std.proofs.Common.{◌∙◌, sym, true≢false}
use Rattle.dft_logic.specs.Circuit.{cell_of}
use Rattle.dft_fault_lanes.specs.Moves.{enable_needs}
use Rattle.dft_fault_lanes.specs.Plans.{cell_needs}
use Rattle.dft_fault_lanes.proofs.MarkLemmas.{marks_then, then_marks}
use Rattle.dft_fault_lanes.proofs.marking.mark_cell.Goals as goal

pub returns-then-not-carried-clause-enable : goal.returns-then-not-carried-clause-enable
returns-then-not-carried-clause-enable c =
    marks_then c.args.marked.now c.mark_enable.new.marked c.mark_reads.new.marked (enable_needs (cell_of c.args.flop.now)) (cell_needs c.args.steer (cell_of c.args.flop.now)) c.mark_enable.ensures c.mark_reads.ensures

pub returns-then-not-carried-clause-reads : goal.returns-then-not-carried-clause-reads
returns-then-not-carried-clause-reads c = λ stays.
    then_marks c.args.marked.now c.mark_enable.new.marked c.mark_reads.new.marked (enable_needs (cell_of c.args.flop.now)) (cell_needs c.args.steer (cell_of c.args.flop.now)) c.mark_enable.ensures c.mark_reads.ensures

pub returns-else-not-carried-clause-reads : goal.returns-else-not-carried-clause-reads
returns-else-not-carried-clause-reads c = λ stays. absurd (true≢false (sym c.if-not-carried.false ∙ stays))
