use Rattle.std.proofs.Common.{rules, arith}
use Rattle.std.proofs.lemmas.Grind.{common_steps}
use Rattle.dft_base.proofs.Turns.{one_more, no_more}
use Rattle.dft_stil_text.specs.Statements.{statements_from}
use Rattle.dft_stil_text.specs.Statements as spec
use Rattle.dft_stil.specs.PatternShown.{pattern_as}
use Rattle.dft_stil.proofs.statements.statements.Goals as goal

pub returns-then-eat : goal.returns-then-eat
unfolding statements_from
returns-then-eat c =
    let e = one_more (λ n. spec.statements_from n c.args.most c.args.names.now c.args.tables.now (pattern_as c.turns.pattern) c.turns.tokens) _ c.turns._turn c.turns-test.true c.turns.invariant.same in
    first_of (search rules, grind (arith, common_steps))

pub returns-in_err-statement : goal.returns-in_err-statement
unfolding statements_from
returns-in_err-statement c =
    let e = one_more (λ n. spec.statements_from n c.args.most c.args.names.now c.args.tables.now (pattern_as c.turns.pattern) c.turns.tokens) _ c.turns._turn c.turns-test.true c.turns.invariant.same in
    first_of (search rules, grind (arith, common_steps))

pub turns-preserved : goal.turns-preserved
unfolding statements_from
turns-preserved c =
    let e = one_more (λ n. spec.statements_from n c.args.most c.args.names.now c.args.tables.now (pattern_as c.turns.pattern) c.turns.tokens) _ c.turns._turn c.turns-test.true c.turns.invariant.same in
    record { same = first_of (search rules, grind (arith, common_steps)); acts = first_of (search rules, grind (arith, common_steps)) }

pub returns : goal.returns
unfolding statements_from
returns c =
    let e = no_more (λ n. spec.statements_from n c.args.most c.args.names.now c.args.tables.now (pattern_as c.turns.pattern) c.turns.tokens) _ c.turns._turn c.turns-test.false c.turns.invariant.same in
    first_of (search rules, grind (arith, common_steps))
