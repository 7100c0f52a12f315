-- The ports of the flip-flops before this one are marked.
use Rattle.dft_takings.proofs.EntryTableLemmas.{MarkedBy}
use Rattle.dft_logic.specs.Circuit.{force_nets}
use Rattle.dft_takings.proofs.marks.mark_forces.Given as goal

abbrev pub invariant-loop-flop : goal.invariant-loop-flop
invariant-loop-flop l = MarkedBy l.flops (λ cell. force_nets cell.forces) l.initial.marked l.marked l.flop-index
