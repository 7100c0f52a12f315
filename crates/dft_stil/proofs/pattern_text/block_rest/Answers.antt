use Rattle.std.proofs.Common.{rules, arith}
use Rattle.std.proofs.lemmas.Grind.{common_steps}
use Rattle.dft_base.proofs.Turns.{one_more, no_more}
use Rattle.dft_stil_text.specs.PatternText.{block_from}
use Rattle.dft_stil_text.specs.PatternText as spec
use Rattle.dft_stil.proofs.pattern_text.block_rest.Goals as goal

pub returns-then-ends_block : goal.returns-then-ends_block
unfolding block_from
returns-then-ends_block c =
    let e = one_more (λ n. spec.block_from n c.turns.depth c.turns.tokens) _ c.turns._turn c.turns-test.true c.turns.invariant.same in
    first_of (search rules, grind (arith, common_steps))

pub returns-then-depth-eq0 : goal.returns-then-depth-eq0
unfolding block_from
returns-then-depth-eq0 c =
    let e = one_more (λ n. spec.block_from n c.turns.depth c.turns.tokens) _ c.turns._turn c.turns-test.true c.turns.invariant.same in
    first_of (search rules, grind (arith, common_steps))

pub turns-preserved : goal.turns-preserved
unfolding block_from
turns-preserved c =
    let e = one_more (λ n. spec.block_from n c.turns.depth c.turns.tokens) _ c.turns._turn c.turns-test.true c.turns.invariant.same in
    record { same = first_of (search rules, grind (arith, common_steps)); small = first_of (search rules, grind (arith, common_steps)) }

pub returns : goal.returns
unfolding block_from
returns c =
    let e = no_more (λ n. spec.block_from n c.turns.depth c.turns.tokens) _ c.turns._turn c.turns-test.false c.turns.invariant.same in
    first_of (search rules, grind (arith, common_steps))
