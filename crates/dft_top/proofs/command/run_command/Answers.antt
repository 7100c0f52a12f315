use Rattle.dft_top.proofs.RunEnds.{outcome_ends}
use Rattle.dft_top.proofs.command.run_command.Goals as goal

pub returns-in-Ok : goal.returns-in-Ok
returns-in-Ok g c =
    let follows = c.in-Ok.ensures in
    outcome_ends _ c.in-Ok.outcome _ _ _ _ _ _ _ _ _ _ _ _ _ _ _ follows.allowed follows.reached follows.held follows.write_faults follows.short_saves c.deliver.ensures.delivered c.deliver.ensures.counts
