use Rattle.std.proofs.Common.{◌+◌, ◌-◌, ◌∙◌}
use Rattle.std.specs.List.{range_with_len}
use Rattle.std.proofs.lemmas.Result.{err_from_is_err_and}
use Rattle.std.proofs.lemmas.List.FromFn.{length-range_with_len}
use Rattle.dft_base.proofs.ListLemmas.{range_over}
use Rattle.dft_parts.proofs.Runs.{range_on, range_start, collect_starts, collect_goes, collect_stops, collect_ends, collect_count}
use Rattle.dft_edt.specs.RingRecipe.{a_phase}
use Rattle.dft_edt.proofs.phases.make_phases.Goals as goal

pub loop-chain-init : goal.loop-chain-init
loop-chain-init c =
    collect_starts (a_phase c.args.ring.now c.args.stages.now) (range_with_len 0 c.args.chains) (range_with_len 0 (c.args.chains - 0)) c.args.parts.now c.new-phases.result.items c.new-phases.ensures.items (range_start c.args.chains)

pub returns-in_err-phase-clause-makes : goal.returns-in_err-phase-clause-makes
returns-in_err-phase-clause-makes c =
    let p = err_from_is_err_and c.from_residual.result c.from_residual.ensures.1 in
    let k = c.loop-chain.chain in
    let n = c.args.chains in
    rw (p.1, p.2)
    (collect_stops (a_phase c.args.ring.now c.args.stages.now) (range_with_len 0 n) (range_with_len k (n - k)) (range_with_len (k + 1) (n - (k + 1))) k c.args.parts.now c.loop-chain.parts c.loop-chain.phases.items c.in_err-phase.field-0.0
    c.loop-chain.invariant (range_on k n c.loop-chain-test.true) c.in_err-phase.ensures.makes)

pub loop-chain-preserved : goal.loop-chain-preserved
loop-chain-preserved c =
    let k = c.loop-chain.chain in
    let n = c.args.chains in
    collect_goes (a_phase c.args.ring.now c.args.stages.now) (range_with_len 0 n) (range_with_len k (n - k)) (range_with_len (k + 1) (n - (k + 1))) k c.args.parts.now c.loop-chain.parts c.make_phase.new.parts c.loop-chain.phases.items
    c.push_net.new.nets.items c.in_ok-phase.phase c.loop-chain.invariant (range_on k n c.loop-chain-test.true) c.in_ok-phase.ensures.makes c.in_ok-phase.ensures.there c.in_ok-phase.ensures.nets c.in_ok-push_net.ensures.ok

pub returns-clause-makes : goal.returns-clause-makes
returns-clause-makes c =
    let k = c.loop-chain.chain in
    let n = c.args.chains in
    collect_ends (a_phase c.args.ring.now c.args.stages.now) (range_with_len 0 n) (range_with_len k (n - k)) c.args.parts.now c.loop-chain.parts c.loop-chain.phases.items c.loop-chain.invariant (range_over k n c.loop-chain-test.false)

pub returns-clause-count : goal.returns-clause-count
returns-clause-count c =
    let k = c.loop-chain.chain in
    let n = c.args.chains in
    collect_count (a_phase c.args.ring.now c.args.stages.now) (range_with_len 0 n) (range_with_len k (n - k)) c.args.parts.now c.loop-chain.parts c.loop-chain.phases.items c.loop-chain.invariant (range_over k n c.loop-chain-test.false)
    ∙ length-range_with_len 0 n
