use Rattle.dft_top.proofs.Seekings.{done_search, refused_search}
use Rattle.dft_top.proofs.seeking.outcome_of_domain.Goals as goal

pub returns-in-Ok-clause-outcome : goal.returns-in-Ok-clause-outcome
returns-in-Ok-clause-outcome c =
    let p = c.args.planned.now in
    done_search p.design p.config c.args.domain c.args.limit c.in-Ok.sought c.sought_as.result c.in-Ok.ensures.done c.sought_as.ensures

pub returns-in_ok-seek_refusal-in-Err-clause-outcome : goal.returns-in_ok-seek_refusal-in-Err-clause-outcome
returns-in_ok-seek_refusal-in-Err-clause-outcome c =
    let p = c.args.planned.now in
    refused_search p.design p.config c.args.domain c.args.limit c.in-Err.error c.in_ok-seek_refusal-in-Err.field-0 c.in-Err.ensures.refused c.in_ok-seek_refusal-in-Err.ensures
