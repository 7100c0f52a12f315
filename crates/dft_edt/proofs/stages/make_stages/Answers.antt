use Rattle.std.proofs.Common.{◌+◌, ◌-◌}
use Rattle.std.specs.List.{range_with_len}
use Rattle.std.proofs.lemmas.Result.{err_from_is_err_and}
use Rattle.dft_base.proofs.ListLemmas.{range_over}
use Rattle.dft_parts.proofs.Runs.{range_on, each_goes, each_stops, each_ends}
use Rattle.dft_edt.specs.RingRecipe.{a_stage}
use Rattle.dft_edt.proofs.stages.make_stages.Goals as goal

pub returns-in_err-make_stage-clause-makes : goal.returns-in_err-make_stage-clause-makes
returns-in_err-make_stage-clause-makes c =
    let p = err_from_is_err_and c.from_residual.result c.from_residual.ensures.1 in
    let f = a_stage c.args.ring.now c.args.ports.now c.args.run c.args.stages.now in
    let k = c.loop-stage.stage in
    let n = c.args.ring.now.stages in
    rw (p.1, p.2)
    (each_stops f (range_with_len 0 n) (range_with_len k (n - k)) (range_with_len (k + 1) (n - (k + 1))) k c.args.parts.now c.loop-stage.parts c.in_err-make_stage.field-0.0 c.loop-stage.invariant (range_on k n c.loop-stage-test.true)
    c.in_err-make_stage.ensures.makes)

pub loop-stage-preserved : goal.loop-stage-preserved
loop-stage-preserved c =
    let f = a_stage c.args.ring.now c.args.ports.now c.args.run c.args.stages.now in
    let k = c.loop-stage.stage in
    let n = c.args.ring.now.stages in
    each_goes f (range_with_len 0 n) (range_with_len k (n - k)) (range_with_len (k + 1) (n - (k + 1))) k c.args.parts.now c.loop-stage.parts c.make_stage.new.parts c.loop-stage.invariant (range_on k n c.loop-stage-test.true)
    c.in_ok-make_stage.ensures.makes c.in_ok-make_stage.ensures.nets

pub returns-clause-makes : goal.returns-clause-makes
returns-clause-makes c =
    let f = a_stage c.args.ring.now c.args.ports.now c.args.run c.args.stages.now in
    let k = c.loop-stage.stage in
    let n = c.args.ring.now.stages in
    each_ends f (range_with_len 0 n) (range_with_len k (n - k)) c.args.parts.now c.loop-stage.parts c.loop-stage.invariant (range_over k n c.loop-stage-test.false)
