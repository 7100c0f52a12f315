use Rattle.std.proofs.Common.{true, cond, ap, sym, ◌∙◌}
use Rattle.std.specs.List.{list_any}
use Rattle.std.specs.Ordering.{eq_by_cmp}
use Rattle.std.specs.BTreeSet.{contains}
use Rattle.std.specs.BTreeMap.{is_at}
use Rattle.std.proofs.lemmas.Cmp.{eq_by_cmp_equiv}
use Rattle.std.proofs.lemmas.Bool.{not-true}
use Rattle.dft_config_text.proofs.DistinctLemmas.{differ_start, differ_more}
use Rattle.dft_config_text.proofs.distinct.items_differ.Goals as goal

pub loop-item-init : goal.loop-item-init
loop-item-init g c =
    differ_start (eq_by_cmp g.T.Ord.cmp) (contains g.T.Ord.cmp c.new-seen.result)
    (λ q. ap (list_any (is_at (g.T.Ord.cmp q))) c.new-seen.ensures.empty) c.args.items.now

pub loop-item-preserved : goal.loop-item-preserved
loop-item-preserved g c =
    let cmp = g.T.Ord.cmp in
    let x = c.item-item.result in
    let at = c.item-item.is in
    let new = not-true (contains cmp c.loop-item.seen x) (sym c.in_ok-insert.ensures.added ∙ c.if-not-branch.false) in
    c.loop-item.invariant
    ∙ differ_more (eq_by_cmp cmp) (eq_by_cmp_equiv g.met.T.Ord.total).symm (contains cmp c.loop-item.seen) (contains cmp c.insert.new.self) c.args.items.now c.loop-item.item-index x c.loop-item-test.true
    (ap (contains cmp c.loop-item.seen) (sym at) ∙ new)
    (λ q. c.in_ok-insert.ensures.updates.0 q ∙ ap (λ y. cond (eq_by_cmp cmp y q) true (contains cmp c.loop-item.seen q)) at)
