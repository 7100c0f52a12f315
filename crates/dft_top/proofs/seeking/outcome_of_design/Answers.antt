use Rattle.dft_top.proofs.Seekings.{design_refused, design_searched}
use Rattle.dft_top.proofs.seeking.outcome_of_design.Goals as goal

pub returns-in-Ok : goal.returns-in-Ok
returns-in-Ok c =
    let n = c.args.design.now in
    let config = c.args.config.now in
    let comes = rw c.in-Ok.ensures.planned at c.outcome_of_clock.ensures.outcome in
    λ seen. design_searched n config c.args.clock.now c.args.limit seen c.outcome_of_clock.result c.in-Ok.ensures.given c.outcome_of_clock.ensures.quiet comes

pub returns-in-Err : goal.returns-in-Err
returns-in-Err c = λ seen. design_refused c.args.design.now c.args.config.now c.args.clock.now c.args.limit seen c.in-Err.stop c.in-Err.ensures.refused
