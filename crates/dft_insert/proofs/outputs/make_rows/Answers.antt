use Rattle.std.proofs.Common.{◌+◌, [], drop, refl, arith, sym}
use Rattle.std.proofs.lemmas.Option.{get_or_from_slice_get, slice_get_within}
use Rattle.std.proofs.lemmas.Result.{err_from_is_err_and}
use Rattle.dft_base.proofs.ListLemmas.{drop_over}
use Rattle.dft_insert.specs.Chained.{a_row}
use Rattle.dft_insert.proofs.MadeParts.{rows_start, rows_on, rows_stop, rows_end, next_item}
use Rattle.dft_insert.proofs.outputs.make_rows.Goals as goal

pub loop-chain-init : goal.loop-chain-init
loop-chain-init c = rows_start (a_row c.args.design.now c.args.gap.now) c.args.chains.now.chains c.args.chains.now.chains c.args.parts.now c.new-rows.result.items c.new-rows.ensures.items refl

pub returns-in_err-row-clause-makes : goal.returns-in_err-row-clause-makes
returns-in_err-row-clause-makes c =
    let p = err_from_is_err_and c.from_residual.result c.from_residual.ensures.1 in
    let k = c.loop-chain.chain in
    let xs = c.args.chains.now.chains in
    let x = c.chain.result.now in
    rw (p.1, p.2)
    (rows_stop (a_row c.args.design.now c.args.gap.now) xs (drop k xs) (drop (k + 1) xs) x c.args.parts.now c.loop-chain.parts c.loop-chain.rows.items c.in_err-row.field-0.0 c.loop-chain.invariant
    (next_item xs k x [] (slice_get_within xs k x c.chain.ensures) (sym (get_or_from_slice_get xs k x [] c.chain.ensures))) c.in_err-row.ensures.makes)

pub loop-chain-preserved : goal.loop-chain-preserved
loop-chain-preserved c =
    let k = c.loop-chain.chain in
    let xs = c.args.chains.now.chains in
    let x = c.chain.result.now in
    rows_on (a_row c.args.design.now c.args.gap.now) xs (drop k xs) (drop (k + 1) xs) x c.args.parts.now c.loop-chain.parts c.make_row.new.parts c.loop-chain.rows.items c.push_row.new.rows.items c.in_ok-row.row.items c.loop-chain.invariant
    (next_item xs k x [] (slice_get_within xs k x c.chain.ensures) (sym (get_or_from_slice_get xs k x [] c.chain.ensures))) c.in_ok-row.ensures.makes c.in_ok-row.ensures.there c.in_ok-row.ensures.nets c.in_ok-push_row.ensures

pub returns-clause-makes : goal.returns-clause-makes
returns-clause-makes c =
    let k = c.loop-chain.chain in
    let xs = c.args.chains.now.chains in
    rows_end (a_row c.args.design.now c.args.gap.now) xs (drop k xs) c.args.parts.now c.loop-chain.parts c.loop-chain.rows.items c.loop-chain.invariant (drop_over xs k (omega (arith, c.loop-chain-test.false, c.count-count.ensures)))
