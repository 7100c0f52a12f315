use Rattle.std.proofs.Common.{◌≡◌, ◌+◌, ◌-◌, ℕ, Ok, subst}
use Rattle.std.specs.List.{range_with_len}
use Rattle.std.proofs.lemmas.Result.{err_from_is_err_and}
use Rattle.dft_base.proofs.ListLemmas.{range_over}
use Rattle.dft_parts.specs.Recipes.{each, outcome, IsRefusal}
use Rattle.dft_parts.proofs.Runs.{range_on, each_goes, each_stops, each_ends}
use Rattle.dft_insert.specs.Scanned.{a_plain_end}
use Rattle.dft_insert.proofs.plain.make_plain_ends.Goals as goal

pub returns-in_err-gate : goal.returns-in_err-gate
returns-in_err-gate c =
    let p = err_from_is_err_and c.from_residual.result c.from_residual.ensures.1 in
    let f = a_plain_end c.args.config.now c.args.gap.now c.args.rows.now in
    let k = c.loop-chain.chain in
    let n = c.count-count.result in
    let refused : IsRefusal (outcome (f k) c.loop-chain.parts) c.in_err-gate.field-0.0 = rw (c.last_net-end.ensures, c.row_at.ensures, c.before-2.ensures, c.from.ensures, c.chains.ensures, c.from-in-loop-chain.ensures) at c.in_err-gate.ensures.makes in
    rw (p.1, p.2)
    (record {
      makes = subst (λ (m : ℕ). IsRefusal (outcome (each f (range_with_len 0 m)) c.args.parts.now) c.in_err-gate.field-0.0) c.count-count.ensures
          (each_stops f (range_with_len 0 n) (range_with_len k (n - k)) (range_with_len (k + 1) (n - (k + 1))) k c.args.parts.now c.loop-chain.parts c.in_err-gate.field-0.0 c.loop-chain.invariant (range_on k n c.loop-chain-test.true) refused);
    })

pub loop-chain-preserved : goal.loop-chain-preserved
loop-chain-preserved c =
    let f = a_plain_end c.args.config.now c.args.gap.now c.args.rows.now in
    let k = c.loop-chain.chain in
    let n = c.count-count.result in
    let made : outcome (f k) c.loop-chain.parts ≡ Ok (tt, c.gate.new.self) = rw (c.last_net-end.ensures, c.row_at.ensures, c.before-2.ensures, c.from.ensures, c.chains.ensures, c.from-in-loop-chain.ensures) at c.in_ok-gate.ensures.makes in
    each_goes f (range_with_len 0 n) (range_with_len k (n - k)) (range_with_len (k + 1) (n - (k + 1))) k c.args.parts.now c.loop-chain.parts c.gate.new.self c.loop-chain.invariant (range_on k n c.loop-chain-test.true) made c.in_ok-gate.ensures.nets

pub returns : goal.returns
returns c =
    let f = a_plain_end c.args.config.now c.args.gap.now c.args.rows.now in
    let k = c.loop-chain.chain in
    let n = c.count-count.result in
    record {
      makes = subst (λ (m : ℕ). outcome (each f (range_with_len 0 m)) c.args.parts.now ≡ Ok (tt, c.loop-chain.parts)) c.count-count.ensures
          (each_ends f (range_with_len 0 n) (range_with_len k (n - k)) c.args.parts.now c.loop-chain.parts c.loop-chain.invariant (range_over k n c.loop-chain-test.false));
    }
