-- The items so far were seen; the rest differ from them and from one another where all differ.
use Rattle.std.proofs.Common.{◌≡◌, ◌&&◌, drop}
use Rattle.std.specs.Ordering.{eq_by_cmp}
use Rattle.std.specs.BTreeSet.{contains}
use Rattle.dft_config.specs.Range.{all_differ}
use Rattle.dft_config_text.proofs.DistinctLemmas.{unseen}
use Rattle.dft_config_text.proofs.distinct.items_differ.Given as goal

abbrev pub invariant-loop-item : goal.invariant-loop-item
invariant-loop-item g l =
    all_differ (eq_by_cmp g.T.Ord.cmp) l.items ≡ (all_differ (eq_by_cmp g.T.Ord.cmp) (drop l.item-index l.items) && unseen (contains g.T.Ord.cmp l.seen) (drop l.item-index l.items))
