use Rattle.std.proofs.Common.{◌+◌, drop, refl}
use Rattle.std.proofs.lemmas.List.{drop_more}
use Rattle.std.proofs.lemmas.Result.{err_from_is_err_and}
use Rattle.dft_base.proofs.ListLemmas.{drop_over}
use Rattle.dft_parts.proofs.Runs.{collect_starts, collect_goes, collect_stops, collect_ends}
use Rattle.dft_insert.specs.Chained.{an_output}
use Rattle.dft_insert.proofs.outputs.make_row.Goals as goal

pub loop-cell-init : goal.loop-cell-init
loop-cell-init c = collect_starts (an_output c.args.design.now c.args.gap.now) c.args.cells.now c.args.cells.now c.args.parts.now c.new-nets.result.items c.new-nets.ensures.items refl

pub returns-in_err-net-clause-makes : goal.returns-in_err-net-clause-makes
returns-in_err-net-clause-makes c =
    let p = err_from_is_err_and c.from_residual.result c.from_residual.ensures.1 in
    let k = c.loop-cell.cell-index in
    let xs = c.args.cells.now in
    rw (p.1, p.2)
    (collect_stops (an_output c.args.design.now c.args.gap.now) xs (drop k xs) (drop (k + 1) xs) _ c.args.parts.now c.loop-cell.parts c.loop-cell.nets.items c.in_err-net.field-0.0 c.loop-cell.invariant (drop_more xs k _ c.loop-cell-test.true)
    c.in_err-net.ensures.makes)

pub loop-cell-preserved : goal.loop-cell-preserved
loop-cell-preserved c =
    let k = c.loop-cell.cell-index in
    let xs = c.args.cells.now in
    collect_goes (an_output c.args.design.now c.args.gap.now) xs (drop k xs) (drop (k + 1) xs) _ c.args.parts.now c.loop-cell.parts c.make_output.new.parts c.loop-cell.nets.items c.push_net.new.nets.items c.in_ok-net.net c.loop-cell.invariant
    (drop_more xs k _ c.loop-cell-test.true) c.in_ok-net.ensures.makes c.in_ok-net.ensures.there c.in_ok-net.ensures.nets c.in_ok-push_net.ensures.ok

pub returns-clause-makes : goal.returns-clause-makes
returns-clause-makes c =
    let k = c.loop-cell.cell-index in
    let xs = c.args.cells.now in
    collect_ends (an_output c.args.design.now c.args.gap.now) xs (drop k xs) c.args.parts.now c.loop-cell.parts c.loop-cell.nets.items c.loop-cell.invariant (drop_over xs k c.loop-cell-test.false)
