-- The scan enable is the steer's, which is 1.
use Rattle.dft_fault_lanes.proofs.moves.pins_take.Goals as goal

pub returns-clause-value : goal.returns-clause-value
returns-clause-value c = λ up. c.is_steered.ensures.value c.if-not-is_steered.false

pub returns-clause-net : goal.returns-clause-net
returns-clause-net c = λ up. c.is_steered.ensures.net c.if-not-is_steered.false

pub returns-clause-input : goal.returns-clause-input
returns-clause-input c = λ up. c.shows_cell.ensures up
