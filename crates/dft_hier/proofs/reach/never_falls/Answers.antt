use Rattle.std.proofs.Common.{ℕ, List, [], ◌∙◌}
use Rattle.std.proofs.lemmas.List.{get_or_read}
use Rattle.dft_hier.proofs.ReachLemmas.{never_next, never_all}
use Rattle.dft_hier.proofs.reach.never_falls.Goals as goal

pub loop-number-preserved : goal.loop-number-preserved
loop-number-preserved c =
    let g : List (List ℕ) = c.args.children.now in
    let number = c.loop-number.number in
    never_next g c.args.numbers.now number c.as_slice.result.now c.requires.count c.loop-number-test.true (c.as_slice.ensures ∙ get_or_read g number c.index-children-number.result c.loop-number-test.true c.index-children-number.is []) (c.has_lower.ensures c.if-has_lower.false) c.loop-number.invariant

pub returns : goal.returns
returns c = λ is. never_all c.args.children.now c.args.numbers.now c.loop-number.number c.loop-number-test.false c.loop-number.invariant
