use Rattle.std.proofs.Common.{◌≡◌, ◌+◌, ◌-◌, ℕ, Ok, subst}
use Rattle.std.specs.List.{range_with_len}
use Rattle.std.proofs.lemmas.Result.{err_from_is_err_and}
use Rattle.dft_base.proofs.ListLemmas.{range_over}
use Rattle.dft_parts.specs.Recipes.{each, outcome, IsRefusal}
use Rattle.dft_parts.proofs.Runs.{range_on, each_goes, each_stops, each_ends}
use Rattle.dft_insert.specs.Scanned.{a_plain_chain}
use Rattle.dft_insert.proofs.plain.make_plain_chains.Goals as goal

pub returns-in_err-make_chain-clause-makes : goal.returns-in_err-make_chain-clause-makes
returns-in_err-make_chain-clause-makes c =
    let p = err_from_is_err_and c.from_residual.result c.from_residual.ensures.1 in
    let f = a_plain_chain c.args.design.now c.args.config.now c.args.chains.now c.args.gap.now c.args.rows.now in
    let k = c.loop-chain.chain in
    let n = c.count-count.result in
    let refused : IsRefusal (outcome (f k) c.loop-chain.parts) c.in_err-make_chain.field-0.0 = rw (c.row_at-row.ensures, c.before-in-loop-chain.ensures, c.from.ensures) at c.in_err-make_chain.ensures.makes in
    rw (p.1, p.2)
    (subst (λ (m : ℕ). IsRefusal (outcome (each f (range_with_len 0 m)) c.args.parts.now) c.in_err-make_chain.field-0.0) c.count-count.ensures
    (each_stops f (range_with_len 0 n) (range_with_len k (n - k)) (range_with_len (k + 1) (n - (k + 1))) k c.args.parts.now c.loop-chain.parts c.in_err-make_chain.field-0.0 c.loop-chain.invariant (range_on k n c.loop-chain-test.true) refused))

pub loop-chain-preserved : goal.loop-chain-preserved
loop-chain-preserved c =
    let f = a_plain_chain c.args.design.now c.args.config.now c.args.chains.now c.args.gap.now c.args.rows.now in
    let k = c.loop-chain.chain in
    let n = c.count-count.result in
    let made : outcome (f k) c.loop-chain.parts ≡ Ok (tt, c.make_chain.new.parts) = rw (c.row_at-row.ensures, c.before-in-loop-chain.ensures, c.from.ensures) at c.in_ok-make_chain.ensures.makes in
    each_goes f (range_with_len 0 n) (range_with_len k (n - k)) (range_with_len (k + 1) (n - (k + 1))) k c.args.parts.now c.loop-chain.parts c.make_chain.new.parts c.loop-chain.invariant (range_on k n c.loop-chain-test.true) made c.in_ok-make_chain.ensures.nets

pub returns-clause-makes : goal.returns-clause-makes
returns-clause-makes c =
    let f = a_plain_chain c.args.design.now c.args.config.now c.args.chains.now c.args.gap.now c.args.rows.now in
    let k = c.loop-chain.chain in
    let n = c.count-count.result in
    subst (λ (m : ℕ). outcome (each f (range_with_len 0 m)) c.args.parts.now ≡ Ok (tt, c.loop-chain.parts)) c.count-count.ensures
    (each_ends f (range_with_len 0 n) (range_with_len k (n - k)) c.args.parts.now c.loop-chain.parts c.loop-chain.invariant (range_over k n c.loop-chain-test.false))
