use Rattle.std.proofs.Common.{◌≡◌, ◌≤◌, ◌-◌, ◌+◌, ◌++◌, ◌∙◌, List, [], ap, flat_map, length, get_or, sym, subst}
use Rattle.std.specs.List.{filter_map, range_with_len}
use Rattle.std.proofs.lemmas.List.{get_or_default}
use Rattle.dft_base.proofs.ListLemmas.{flat_on, flat_over}
use Rattle.dft_netlist.specs.declared.ids.InstanceId.{InstanceId}
use Rattle.dft_stitch.specs.Chains.{lockup_after, lockups_in, lockups_of}
use Rattle.dft_stitch.proofs.RangeLemmas.{begun, ended, flat_start, grown}
use Rattle.dft_stitch.proofs.lockups.find_lockups.Goals as goal

pub add_lockups-requires : goal.add_lockups-requires
add_lockups-requires c =
    let P : List InstanceId → Type 0 = λ cells. length cells ≤ 65536 in
    let is = c.as_slice.ensures ∙ c.index-chains-chain.is in
    subst P (sym is) (c.requires.short c.loop-chain.chain c.index-chains-chain.result c.loop-chain-test.true)

pub loop-chain-init : goal.loop-chain-init
loop-chain-init c =
    let f = lockups_in c.args.verdicts.now c.args.chains.now in
    let total = length c.args.chains.now in
    begun c.new-lockups.result.items (flat_map f (range_with_len 0 (total - 0))) (lockups_of c.args.verdicts.now c.args.chains.now) c.new-lockups.ensures.items (flat_start f total)

pub loop-chain-preserved : goal.loop-chain-preserved
loop-chain-preserved c =
    let f = lockups_in c.args.verdicts.now c.args.chains.now in
    let k = c.loop-chain.chain in
    let total = length c.args.chains.now in
    let old = c.loop-chain.lockups.items in
    let is : c.as_slice.result.now ≡ get_or c.args.chains.now k [] = c.as_slice.ensures ∙ c.index-chains-chain.is ∙ get_or_default c.args.chains.now k c.index-chains-chain.result [] c.loop-chain-test.true in
    grown old _ (f k) (flat_map f (range_with_len k (total - k))) (flat_map f (range_with_len (k + 1) (total - (k + 1)))) (lockups_of c.args.verdicts.now c.args.chains.now)
    (c.in_ok-add_lockups.ensures ∙ ap (λ (cells : List InstanceId). old ++ filter_map (lockup_after c.args.verdicts.now k cells) (range_with_len 0 (length cells))) is) (flat_on f k total c.loop-chain-test.true) c.loop-chain.invariant

pub returns : goal.returns
returns c =
    let f = lockups_in c.args.verdicts.now c.args.chains.now in
    let k = c.loop-chain.chain in
    let total = length c.args.chains.now in
    ended c.loop-chain.lockups.items (flat_map f (range_with_len k (total - k))) (lockups_of c.args.verdicts.now c.args.chains.now) (flat_over f k total c.loop-chain-test.false) c.loop-chain.invariant
