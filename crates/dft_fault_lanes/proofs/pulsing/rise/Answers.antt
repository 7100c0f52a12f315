-- What nets show, which lanes stay live, what cells take.
use Rattle.dft_fault_lanes.proofs.pulsing.rise.Goals as goal

pub returns-clause-phase : goal.returns-clause-phase
returns-clause-phase c = λ settled. record { shown = c.args.play.plan.now.rises.items; shows = c.requires.plan.1.rises; steady = c.keep_rises.ensures.steady; taken = c.take_rises.ensures.taken settled }
