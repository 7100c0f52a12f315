-- The port of one flip-flop more is marked.
use Rattle.dft_logic.specs.Circuit.{force_nets}
use Rattle.dft_takings.proofs.EntryTableLemmas.{marked_by_more}
use Rattle.dft_takings.proofs.marks.mark_forces.Goals as goal

pub loop-flop-preserved : goal.loop-flop-preserved
loop-flop-preserved c =
    marked_by_more c.args.flops.now (λ cell. force_nets cell.forces) c.args.marked.now c.loop-flop.marked c.mark_force.new.marked c.loop-flop.flop-index _ c.loop-flop-test.true c.mark_force.ensures c.loop-flop.invariant
