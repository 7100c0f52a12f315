-- A design that no check refuses is planned, and an error of planning is the first check that fails.
use Rattle.std.proofs.Common.{[], refl}
use Rattle.std.proofs.lemmas.Result.{err_from_is_err_and}
use Rattle.dft_scan_frame.proofs.ReadyLemmas.{ready_of}
use Rattle.dft_compile.proofs.LateLemmas.{err_refused}
use Rattle.dft_compile.proofs.RefusalLemmas.{planning_refused}
use Rattle.dft_top.specs.Checks.{plan_refusal}
use Rattle.dft_top.proofs.seeking.plan_of_design.Goals as goal

pub returns-in_err-planned-clause-refused : goal.returns-in_err-planned-clause-refused
returns-in_err-planned-clause-refused c =
    let n = c.args.design.now in
    let config = c.args.config.now in
    let p = err_from_is_err_and c.from_residual.result c.from_residual.ensures.1 in
    err_refused (plan_refusal n config) c.from_residual.result p.0 _ p.1 p.2 (planning_refused n config [] c.in_err-planned.field-0.0 c.in_err-planned.ensures.refused)

pub returns-clause-ready : goal.returns-clause-ready
returns-clause-ready c =
    let known = rw c.in_ok-planned.ensures.planned at c.soundness-2.ensures in
    let sound = c.soundness.ensures in
    ready_of c.args.design.now c.args.config.now sound.netlist sound.library sound.single sound.ordered known.range known.passed

pub returns-clause-accepted : goal.returns-clause-accepted
returns-clause-accepted c =
    let known = rw c.in_ok-planned.ensures.planned at c.soundness-2.ensures in
    rw (known.passed, known.fits) refl
