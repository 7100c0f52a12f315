use Rattle.std.proofs.Common.{◌+◌, drop}
use Rattle.std.proofs.lemmas.List.{drop_more}
use Rattle.std.proofs.lemmas.Result.{err_from_is_err_and}
use Rattle.dft_base.proofs.ListLemmas.{drop_over}
use Rattle.dft_parts.proofs.Runs.{each_goes, each_stops, each_ends}
use Rattle.dft_insert.specs.Chained.{crossing_in}
use Rattle.dft_insert.proofs.chaining.make_crossings.Goals as goal

pub returns-in_err-make_crossing_in-clause-makes : goal.returns-in_err-make_crossing_in-clause-makes
returns-in_err-make_crossing_in-clause-makes c =
    let p = err_from_is_err_and c.from_residual.result c.from_residual.ensures.1 in
    let f = crossing_in c.args.design.now c.args.config.now c.args.gap.now c.args.chain c.args.cells.now c.args.row.now in
    let k = c.loop-lockup.lockup-index in
    let xs = c.args.lockups.now in
    rw (p.1, p.2)
    (each_stops f xs (drop k xs) (drop (k + 1) xs) _ c.args.parts.now c.loop-lockup.parts c.in_err-make_crossing_in.field-0.0 c.loop-lockup.invariant (drop_more xs k _ c.loop-lockup-test.true) c.in_err-make_crossing_in.ensures.makes)

pub loop-lockup-preserved : goal.loop-lockup-preserved
loop-lockup-preserved c =
    let f = crossing_in c.args.design.now c.args.config.now c.args.gap.now c.args.chain c.args.cells.now c.args.row.now in
    let k = c.loop-lockup.lockup-index in
    let xs = c.args.lockups.now in
    each_goes f xs (drop k xs) (drop (k + 1) xs) _ c.args.parts.now c.loop-lockup.parts c.make_crossing_in.new.parts c.loop-lockup.invariant (drop_more xs k _ c.loop-lockup-test.true) c.in_ok-make_crossing_in.ensures.makes c.in_ok-make_crossing_in.ensures.nets

pub returns-clause-makes : goal.returns-clause-makes
returns-clause-makes c =
    let f = crossing_in c.args.design.now c.args.config.now c.args.gap.now c.args.chain c.args.cells.now c.args.row.now in
    let k = c.loop-lockup.lockup-index in
    let xs = c.args.lockups.now in
    each_ends f xs (drop k xs) c.args.parts.now c.loop-lockup.parts c.loop-lockup.invariant (drop_over xs k c.loop-lockup-test.false)
