use Rattle.std.proofs.Common.{◌+◌, ◌-◌, ◌∙◌}
use Rattle.std.specs.List.{range_with_len}
use Rattle.std.proofs.lemmas.Result.{err_from_is_err_and}
use Rattle.std.proofs.lemmas.List.FromFn.{length-range_with_len}
use Rattle.dft_base.proofs.ListLemmas.{range_over}
use Rattle.dft_parts.specs.Recipes.{a_net}
use Rattle.dft_parts.proofs.Runs.{range_on, range_start, collect_starts, collect_goes, collect_stops, collect_ends, collect_count}
use Rattle.dft_edt.proofs.stages.make_nets.Goals as goal

pub loop-number-init : goal.loop-number-init
loop-number-init c = collect_starts (λ _. a_net) (range_with_len 0 c.args.count) (range_with_len 0 (c.args.count - 0)) c.args.parts.now c.new-nets.result.items c.new-nets.ensures.items (range_start c.args.count)

pub returns-in_err-net-clause-makes : goal.returns-in_err-net-clause-makes
returns-in_err-net-clause-makes c =
    let p = err_from_is_err_and c.from_residual.result c.from_residual.ensures.1 in
    let k = c.loop-number.number in
    let n = c.args.count in
    rw (p.1, p.2)
    (collect_stops (λ _. a_net) (range_with_len 0 n) (range_with_len k (n - k)) (range_with_len (k + 1) (n - (k + 1))) k c.args.parts.now c.loop-number.parts c.loop-number.nets.items c.in_err-net.field-0.0 c.loop-number.invariant
    (range_on k n c.loop-number-test.true) c.in_err-net.ensures.makes)

pub loop-number-preserved : goal.loop-number-preserved
loop-number-preserved c =
    let k = c.loop-number.number in
    let n = c.args.count in
    collect_goes (λ _. a_net) (range_with_len 0 n) (range_with_len k (n - k)) (range_with_len (k + 1) (n - (k + 1))) k c.args.parts.now c.loop-number.parts c.net.new.self c.loop-number.nets.items c.push_net.new.nets.items c.in_ok-net.net
    c.loop-number.invariant (range_on k n c.loop-number-test.true) c.in_ok-net.ensures.makes c.in_ok-net.ensures.there c.in_ok-net.ensures.nets c.in_ok-push_net.ensures.ok

pub returns-clause-makes : goal.returns-clause-makes
returns-clause-makes c =
    let k = c.loop-number.number in
    let n = c.args.count in
    collect_ends (λ _. a_net) (range_with_len 0 n) (range_with_len k (n - k)) c.args.parts.now c.loop-number.parts c.loop-number.nets.items c.loop-number.invariant (range_over k n c.loop-number-test.false)

pub returns-clause-count : goal.returns-clause-count
returns-clause-count c =
    let k = c.loop-number.number in
    let n = c.args.count in
    collect_count (λ _. a_net) (range_with_len 0 n) (range_with_len k (n - k)) c.args.parts.now c.loop-number.parts c.loop-number.nets.items c.loop-number.invariant (range_over k n c.loop-number-test.false) ∙ length-range_with_len 0 n
