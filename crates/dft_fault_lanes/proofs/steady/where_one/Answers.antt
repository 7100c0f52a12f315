-- Both are 1.
use Rattle.dft_fault_lanes.proofs.SteadyLemmas.{and_live, and_wide}
use Rattle.dft_fault_lanes.proofs.steady.where_one.Goals as goal

pub returns-else-still-clause-live : goal.returns-else-still-clause-live
returns-else-still-clause-live c = λ lane within h.
    let both = and_live c.wide_and.result c.args.live.now c.args.wide.now c.requires.live c.requires.wide c.wide_and.ensures lane within h in
    (both.0, λ moves. both.1)

pub returns-else-still-clause-wide : goal.returns-else-still-clause-wide
returns-else-still-clause-wide c = and_wide c.wide_and.result c.args.live.now c.args.wide.now c.requires.live c.requires.wide c.wide_and.ensures
