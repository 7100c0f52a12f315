use Rattle.std.proofs.Common.{rules, arith}
use Rattle.std.proofs.lemmas.Grind.{common_steps}
use Rattle.dft_base.proofs.Turns.{one_more, no_more}
use Rattle.dft_stil_text.specs.SignalGroups.{members_from}
use Rattle.dft_stil_text.specs.SignalGroups as spec
use Rattle.dft_stil.proofs.signal_groups.more_members.Goals as goal

pub returns-then-not-eat-clause-read : goal.returns-then-not-eat-clause-read
unfolding members_from
returns-then-not-eat-clause-read c =
    let e = one_more (λ n. spec.members_from n c.args.names.now c.turns.members c.turns.tokens) _ c.turns._turn c.turns-test.true c.turns.invariant.same in
    first_of (search rules, grind (arith, common_steps))

pub returns-in_err-more-clause-read : goal.returns-in_err-more-clause-read
unfolding members_from
returns-in_err-more-clause-read c =
    let e = one_more (λ n. spec.members_from n c.args.names.now c.turns.members c.turns.tokens) _ c.turns._turn c.turns-test.true c.turns.invariant.same in
    first_of (search rules, grind (arith, common_steps))

pub turns-preserved : goal.turns-preserved
unfolding members_from
turns-preserved c =
    let e = one_more (λ n. spec.members_from n c.args.names.now c.turns.members c.turns.tokens) _ c.turns._turn c.turns-test.true c.turns.invariant.same in
    record { same = first_of (search rules, grind (arith, common_steps)); sees = first_of (search rules, grind (arith, common_steps)); count = first_of (search rules, grind (arith, common_steps)) }

pub returns-clause-read : goal.returns-clause-read
unfolding members_from
returns-clause-read c =
    let e = no_more (λ n. spec.members_from n c.args.names.now c.turns.members c.turns.tokens) _ c.turns._turn c.turns-test.false c.turns.invariant.same in
    first_of (search rules, grind (arith, common_steps))
