-- What each value lets through.
use Rattle.dft_fault_lanes.proofs.steady.chosen_still.Goals as goal

pub returns-in-Zero : goal.returns-in-Zero
returns-in-Zero c = rw c.in-Zero.is c.reads_still.ensures

pub returns-in-One : goal.returns-in-One
returns-in-One c = rw c.in-One.is c.reads_still-in-One.ensures

pub returns-in-Unknown : goal.returns-in-Unknown
returns-in-Unknown c = rw c.in-Unknown.is c.both_still.ensures
