use Rattle.dft_top.proofs.CertifyLemmas.{certified_is, uncertified_is}
use Rattle.dft_top.proofs.certifying.outcome_of_report.Goals as goal

pub returns-in-Ok-clause-outcome : goal.returns-in-Ok-clause-outcome
returns-in-Ok-clause-outcome c =
    let l = c.args.loads.now in
    let known = c.soundness.ensures in
    certified_is l.design l.config c.args.cubes.now c.args.report.now l.plan l.rows c.in-Ok.unsolvable known.planned known.equations c.in-Ok.ensures.certified c.in-Ok.ensures.count

pub returns-in_ok-certify_refusal-in-Err-clause-outcome : goal.returns-in_ok-certify_refusal-in-Err-clause-outcome
returns-in_ok-certify_refusal-in-Err-clause-outcome c =
    let l = c.args.loads.now in
    let known = c.soundness.ensures in
    uncertified_is l.design l.config c.args.cubes.now c.args.report.now l.plan l.rows c.in-Err.error c.in_ok-certify_refusal-in-Err.field-0 known.planned known.equations c.in-Err.ensures.refused c.in_ok-certify_refusal-in-Err.ensures
