use Rattle.std.proofs.Common.{◌≡◌, List, [], Ok, slice_get, sym, subst}
use Rattle.std.proofs.lemmas.Option.{get_or_from_slice_get}
use Rattle.std.proofs.lemmas.Result.{err_from_is_err_and}
use Rattle.dft_netlist.specs.declared.ids.InstanceId.{InstanceId}
use Rattle.dft_parts.specs.Recipes.{outcome, IsRefusal}
use Rattle.dft_insert.specs.Chained.{a_chain, a_scan_in, cells_at}
use Rattle.dft_insert.proofs.MadeParts.{crossings_of, chain_refused, chain_made}
use Rattle.dft_insert.proofs.chaining.make_chain.Goals as goal

pub returns-in_err-make_crossings-clause-makes : goal.returns-in_err-make_crossings-clause-makes
returns-in_err-make_crossings-clause-makes c =
    let p = err_from_is_err_and c.from_residual.result c.from_residual.ensures.1 in
    let n = c.args.design.now in
    let config = c.args.config.now in
    let gap = c.args.gap.now in
    let locks = c.args.chains.now.lockups in
    let row = c.args.row.now in
    let xs = c.chain-cells.result.now in
    let cells : cells_at c.args.chains.now.chains c.args.chain ≡ xs = get_or_from_slice_get c.args.chains.now.chains c.args.chain xs [] c.chain-cells.ensures in
    let entered : outcome (a_scan_in n (slice_get xs 0) c.args.entry) c.args.parts.now ≡ Ok (tt, c.join_scan_in.new.parts) = rw c.cell_in.ensures at c.join_scan_in.ensures.makes in
    let refused : IsRefusal (outcome (crossings_of n config gap locks c.args.chain xs row) c.join_scan_in.new.parts) c.in_err-make_crossings.field-0.0 = rw c.lockups.ensures at c.in_err-make_crossings.ensures.makes in
    rw (p.1, p.2)
    (subst (λ (cs : List InstanceId). IsRefusal (outcome (a_chain n config gap locks c.args.chain cs row c.args.entry) c.args.parts.now) c.in_err-make_crossings.field-0.0) (sym cells)
    (chain_refused n config gap locks c.args.chain xs row c.args.entry c.args.parts.now c.join_scan_in.new.parts c.in_err-make_crossings.field-0.0 entered refused))

pub returns-clause-makes : goal.returns-clause-makes
returns-clause-makes c =
    let n = c.args.design.now in
    let config = c.args.config.now in
    let gap = c.args.gap.now in
    let locks = c.args.chains.now.lockups in
    let row = c.args.row.now in
    let xs = c.chain-cells.result.now in
    let cells : cells_at c.args.chains.now.chains c.args.chain ≡ xs = get_or_from_slice_get c.args.chains.now.chains c.args.chain xs [] c.chain-cells.ensures in
    let entered : outcome (a_scan_in n (slice_get xs 0) c.args.entry) c.args.parts.now ≡ Ok (tt, c.join_scan_in.new.parts) = rw c.cell_in.ensures at c.join_scan_in.ensures.makes in
    let crossed : outcome (crossings_of n config gap locks c.args.chain xs row) c.join_scan_in.new.parts ≡ Ok (tt, c.make_crossings.new.parts) = rw c.lockups.ensures at c.in_ok-make_crossings.ensures.makes in
    subst (λ (cs : List InstanceId). outcome (a_chain n config gap locks c.args.chain cs row c.args.entry) c.args.parts.now ≡ Ok (tt, c.join_steps.new.parts)) (sym cells)
    (chain_made n config gap locks c.args.chain xs row c.args.entry c.args.parts.now c.join_scan_in.new.parts c.make_crossings.new.parts c.join_steps.new.parts entered crossed c.join_steps.ensures.makes)
