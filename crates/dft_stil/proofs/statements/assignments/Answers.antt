use Rattle.std.proofs.Common.{rules, arith}
use Rattle.std.proofs.lemmas.Grind.{common_steps}
use Rattle.dft_base.proofs.Turns.{one_more, no_more}
use Rattle.dft_stil_text.specs.Statements.{assignments_from}
use Rattle.dft_stil_text.specs.Statements as spec
use Rattle.std.proofs.Common.{option_map}
use Rattle.dft_stil.specs.VectorShown.{vector_as}
use Rattle.dft_stil.proofs.statements.assignments.Goals as goal

pub returns-then-eat-clause-read : goal.returns-then-eat-clause-read
unfolding assignments_from
returns-then-eat-clause-read c =
    let e = one_more (λ n. spec.assignments_from n c.args.names.now (option_map (λ s. s.now) c.args.waveforms) (vector_as c.turns.vector) c.turns.tokens) _ c.turns._turn c.turns-test.true c.turns.invariant.same in
    first_of (search rules, grind (arith, common_steps))

pub returns-in_err-vector-clause-read : goal.returns-in_err-vector-clause-read
unfolding assignments_from
returns-in_err-vector-clause-read c =
    let e = one_more (λ n. spec.assignments_from n c.args.names.now (option_map (λ s. s.now) c.args.waveforms) (vector_as c.turns.vector) c.turns.tokens) _ c.turns._turn c.turns-test.true c.turns.invariant.same in
    first_of (search rules, grind (arith, common_steps))

pub turns-preserved : goal.turns-preserved
unfolding assignments_from
turns-preserved c =
    let e = one_more (λ n. spec.assignments_from n c.args.names.now (option_map (λ s. s.now) c.args.waveforms) (vector_as c.turns.vector) c.turns.tokens) _ c.turns._turn c.turns-test.true c.turns.invariant.same in
    record { same = first_of (search rules, grind (arith, common_steps)); acts = first_of (search rules, grind (arith, common_steps)); told = first_of (search rules, grind (arith, common_steps)) }

pub returns-clause-read : goal.returns-clause-read
unfolding assignments_from
returns-clause-read c =
    let e = no_more (λ n. spec.assignments_from n c.args.names.now (option_map (λ s. s.now) c.args.waveforms) (vector_as c.turns.vector) c.turns.tokens) _ c.turns._turn c.turns-test.false c.turns.invariant.same in
    first_of (search rules, grind (arith, common_steps))
