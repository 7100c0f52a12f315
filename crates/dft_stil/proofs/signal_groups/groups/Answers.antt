use Rattle.std.proofs.Common.{rules, arith}
use Rattle.std.proofs.lemmas.Grind.{common_steps}
use Rattle.dft_base.proofs.Turns.{one_more, no_more}
use Rattle.dft_stil_text.specs.SignalGroups.{groups_from}
use Rattle.dft_stil_text.specs.SignalGroups as spec
use Rattle.dft_stil.proofs.signal_groups.groups.Goals as goal

pub returns-then-eat : goal.returns-then-eat
unfolding groups_from
returns-then-eat c =
    let e = one_more (λ n. spec.groups_from n c.turns.names c.turns.tokens) _ c.turns._turn c.turns-test.true c.turns.invariant in
    first_of (search rules, grind (arith, common_steps))

pub returns-in_err-group : goal.returns-in_err-group
unfolding groups_from
returns-in_err-group c =
    let e = one_more (λ n. spec.groups_from n c.turns.names c.turns.tokens) _ c.turns._turn c.turns-test.true c.turns.invariant in
    first_of (search rules, grind (arith, common_steps))

pub turns-preserved : goal.turns-preserved
unfolding groups_from
turns-preserved c =
    let e = one_more (λ n. spec.groups_from n c.turns.names c.turns.tokens) _ c.turns._turn c.turns-test.true c.turns.invariant in
    first_of (search rules, grind (arith, common_steps))

pub returns : goal.returns
unfolding groups_from
returns c =
    let e = no_more (λ n. spec.groups_from n c.turns.names c.turns.tokens) _ c.turns._turn c.turns-test.false c.turns.invariant in
    first_of (search rules, grind (arith, common_steps))
