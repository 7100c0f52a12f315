use Rattle.std.proofs.Common.{rules, arith}
use Rattle.std.proofs.lemmas.Grind.{common_steps}
use Rattle.dft_base.proofs.Turns.{one_more, no_more}
use Rattle.dft_stil_text.specs.SignalGroups.{group_blocks_from}
use Rattle.dft_stil_text.specs.SignalGroups as spec
use Rattle.dft_stil.proofs.signal_groups.all_groups.Goals as goal

pub returns-then-not-eat_groups : goal.returns-then-not-eat_groups
unfolding group_blocks_from
returns-then-not-eat_groups c =
    let e = one_more (λ n. spec.group_blocks_from n c.turns.names c.turns.tokens) _ c.turns._turn c.turns-test.true c.turns.invariant in
    first_of (search rules, grind (arith, common_steps))

pub returns-in_err-group_block : goal.returns-in_err-group_block
unfolding group_blocks_from
returns-in_err-group_block c =
    let e = one_more (λ n. spec.group_blocks_from n c.turns.names c.turns.tokens) _ c.turns._turn c.turns-test.true c.turns.invariant in
    first_of (search rules, grind (arith, common_steps))

pub turns-preserved : goal.turns-preserved
unfolding group_blocks_from
turns-preserved c =
    let e = one_more (λ n. spec.group_blocks_from n c.turns.names c.turns.tokens) _ c.turns._turn c.turns-test.true c.turns.invariant in
    first_of (search rules, grind (arith, common_steps))

pub returns : goal.returns
unfolding group_blocks_from
returns c =
    let e = no_more (λ n. spec.group_blocks_from n c.turns.names c.turns.tokens) _ c.turns._turn c.turns-test.false c.turns.invariant in
    first_of (search rules, grind (arith, common_steps))
