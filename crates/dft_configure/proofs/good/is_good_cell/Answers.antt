use Rattle.std.proofs.Common.{◌∙◌, ◌&&◌, sym, ap}
use Rattle.std.specs.BTreeSet.{contains}
use Rattle.std.specs.Ordering.{nat_cmp}
use Rattle.std.proofs.lemmas.Bool.{not-true}
use Rattle.dft_configure.proofs.SeenLemmas.{alone_here, seen_more}
use Rattle.dft_configure.proofs.good.is_good_cell.Goals as goal

pub returns-then-not-has_variable-clause-seen : goal.returns-then-not-has_variable-clause-seen
returns-then-not-has_variable-clause-seen c = seen_more c.args.equations.now c.args.chain c.args.place _ _ c.stamp_at.result c.stamp_at.ensures c.in_ok-is_new.ensures.updates.0 c.requires.seen

pub returns-then-is_new-clause-good : goal.returns-then-is_new-clause-good
returns-then-is_new-clause-good c =
    let rows = c.args.equations.now in
    let new = not-true (contains nat_cmp c.args.seen.now c.stamp_at.result) (sym c.in_ok-is_new.ensures.added ∙ c.if-is_new.true) in
    let has = sym c.if-not-has_variable.false ∙ c.has_variable.ensures in
    let alone = alone_here rows c.args.chain c.args.place (contains nat_cmp c.args.seen.now) c.requires.cell c.requires.seen (ap (contains nat_cmp c.args.seen.now) (sym c.stamp_at.ensures) ∙ new) in
    (λ i. has i && alone i)

pub returns-then-is_new-clause-seen : goal.returns-then-is_new-clause-seen
returns-then-is_new-clause-seen c = seen_more c.args.equations.now c.args.chain c.args.place _ _ c.stamp_at.result c.stamp_at.ensures c.in_ok-is_new.ensures.updates.0 c.requires.seen

pub returns-clause-seen : goal.returns-clause-seen
returns-clause-seen c = seen_more c.args.equations.now c.args.chain c.args.place _ _ c.stamp_at.result c.stamp_at.ensures c.in_ok-is_new.ensures.updates.0 c.requires.seen
