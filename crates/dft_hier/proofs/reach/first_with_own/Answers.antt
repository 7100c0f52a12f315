use Rattle.std.proofs.Common.{ℕ, List, [], ◌∙◌}
use Rattle.std.proofs.lemmas.List.{get_or_read}
use Rattle.dft_hier.proofs.ReachLemmas.{own_next}
use Rattle.dft_hier.proofs.reach.first_with_own.Goals as goal

pub loop-number-preserved : goal.loop-number-preserved
loop-number-preserved c =
    let g : List (List ℕ) = c.args.children.now in
    let number = c.loop-number.number in
    own_next g c.args.numbers.now number c.as_slice.result.now (c.as_slice.ensures ∙ get_or_read g number c.index-children-number.result c.loop-number-test.true c.index-children-number.is []) (c.has_own.ensures c.if-has_own.false) c.loop-number.invariant
