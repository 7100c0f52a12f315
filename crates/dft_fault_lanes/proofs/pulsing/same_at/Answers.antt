-- The words are compared one after the other.
use Rattle.dft_fault_lanes.proofs.pulsing.same_at.Goals as goal

pub returns-clause-zeros : goal.returns-clause-zeros
returns-clause-zeros c = λ up. c.same_word.ensures c.if-not-same_word.false

pub returns-clause-ones : goal.returns-clause-ones
returns-clause-ones c = λ up. c.same_word-2.ensures up
