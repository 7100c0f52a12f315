use Rattle.std.proofs.Common.{◌+◌, ◌-◌, ◌∙◌, ℕ, length}
use Rattle.std.specs.List.{range_with_len}
use Rattle.std.proofs.lemmas.Result.{err_from_is_err_and}
use Rattle.std.proofs.lemmas.List.FromFn.{length-range_with_len}
use Rattle.dft_base.proofs.ListLemmas.{range_over}
use Rattle.dft_netlist.specs.declared.ids.NetId.{NetId}
use Rattle.dft_parts.specs.Recipes.{Recipe, net_at}
use Rattle.dft_parts.proofs.Runs.{range_on, range_start, collect_starts, collect_goes, collect_stops, collect_ends, collect_count}
use Rattle.dft_edt.specs.CompactorRecipe.{a_gated, masks_at}
use Rattle.dft_edt.proofs.outputs.make_gated.Goals as goal

pub loop-chain-init : goal.loop-chain-init
loop-chain-init c =
    let f : ℕ → Recipe NetId = λ chain. a_gated (masks_at c.args.masks.now chain).hold (net_at c.args.ends.now chain) in
    let n = length c.args.ends.now in
    collect_starts f (range_with_len 0 n) (range_with_len 0 (n - 0)) c.args.parts.now c.new-gated.result.items c.new-gated.ensures.items (range_start n)

pub returns-in_err-net-clause-makes : goal.returns-in_err-net-clause-makes
returns-in_err-net-clause-makes c =
    let p = err_from_is_err_and c.from_residual.result c.from_residual.ensures.1 in
    let f : ℕ → Recipe NetId = λ chain. a_gated (masks_at c.args.masks.now chain).hold (net_at c.args.ends.now chain) in
    let k = c.loop-chain.chain in
    let n = length c.args.ends.now in
    rw (p.1, p.2)
    (collect_stops f (range_with_len 0 n) (range_with_len k (n - k)) (range_with_len (k + 1) (n - (k + 1))) k c.args.parts.now c.loop-chain.parts c.loop-chain.gated.items c.in_err-net.field-0.0 c.loop-chain.invariant
    (range_on k n c.loop-chain-test.true) c.in_err-net.ensures.makes)

pub loop-chain-preserved : goal.loop-chain-preserved
loop-chain-preserved c =
    let f : ℕ → Recipe NetId = λ chain. a_gated (masks_at c.args.masks.now chain).hold (net_at c.args.ends.now chain) in
    let k = c.loop-chain.chain in
    let n = length c.args.ends.now in
    collect_goes f (range_with_len 0 n) (range_with_len k (n - k)) (range_with_len (k + 1) (n - (k + 1))) k c.args.parts.now c.loop-chain.parts c.gate_end.new.parts c.loop-chain.gated.items c.push_net.new.nets.items c.in_ok-net.net
    c.loop-chain.invariant (range_on k n c.loop-chain-test.true) c.in_ok-net.ensures.makes c.in_ok-net.ensures.there c.in_ok-net.ensures.nets c.in_ok-push_net.ensures.ok

pub returns-clause-makes : goal.returns-clause-makes
returns-clause-makes c =
    let f : ℕ → Recipe NetId = λ chain. a_gated (masks_at c.args.masks.now chain).hold (net_at c.args.ends.now chain) in
    let k = c.loop-chain.chain in
    let n = length c.args.ends.now in
    collect_ends f (range_with_len 0 n) (range_with_len k (n - k)) c.args.parts.now c.loop-chain.parts c.loop-chain.gated.items c.loop-chain.invariant (range_over k n c.loop-chain-test.false)

pub returns-clause-count : goal.returns-clause-count
returns-clause-count c =
    let f : ℕ → Recipe NetId = λ chain. a_gated (masks_at c.args.masks.now chain).hold (net_at c.args.ends.now chain) in
    let k = c.loop-chain.chain in
    let n = length c.args.ends.now in
    collect_count f (range_with_len 0 n) (range_with_len k (n - k)) c.args.parts.now c.loop-chain.parts c.loop-chain.gated.items c.loop-chain.invariant (range_over k n c.loop-chain-test.false) ∙ length-range_with_len 0 n
