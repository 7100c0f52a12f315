use Rattle.std.proofs.Common.{rules, arith}
use Rattle.std.proofs.lemmas.Grind.{common_steps}
use Rattle.dft_base.proofs.Turns.{one_more, no_more}
use Rattle.dft_stil_text.specs.SignalGroups.{signals_from}
use Rattle.dft_stil_text.specs.SignalGroups as spec
use Rattle.dft_stil.proofs.signal_groups.signals.Goals as goal

pub returns-then-eat : goal.returns-then-eat
unfolding signals_from
returns-then-eat c =
    let e = one_more (λ n. spec.signals_from n c.turns.names c.turns.tokens) _ c.turns._turn c.turns-test.true c.turns.invariant in
    first_of (search rules, grind (arith, common_steps))

pub returns-in_err-signal : goal.returns-in_err-signal
unfolding signals_from
returns-in_err-signal c =
    let e = one_more (λ n. spec.signals_from n c.turns.names c.turns.tokens) _ c.turns._turn c.turns-test.true c.turns.invariant in
    first_of (search rules, grind (arith, common_steps))

pub turns-preserved : goal.turns-preserved
unfolding signals_from
turns-preserved c =
    let e = one_more (λ n. spec.signals_from n c.turns.names c.turns.tokens) _ c.turns._turn c.turns-test.true c.turns.invariant in
    first_of (search rules, grind (arith, common_steps))

pub returns : goal.returns
unfolding signals_from
returns c =
    let e = no_more (λ n. spec.signals_from n c.turns.names c.turns.tokens) _ c.turns._turn c.turns-test.false c.turns.invariant in
    first_of (search rules, grind (arith, common_steps))
