use Rattle.std.proofs.Common.{rules, arith}
use Rattle.std.proofs.lemmas.Grind.{common_steps}
use Rattle.dft_base.proofs.Turns.{one_more, no_more}
use Rattle.dft_netlist_text.specs.Expressions.{concatenations_from}
use Rattle.dft_verilog_draft.proofs.OperandLemmas.{grows_on}
use Rattle.dft_verilog_module.proofs.concatenations.OpenConcatenations.read_on.Goals as goal

pub returns-then-is_read-clause-read : goal.returns-then-is_read-clause-read
unfolding concatenations_from
returns-then-is_read-clause-read c =
    let e = one_more (λ n. concatenations_from n c.args.site c.turns.draft c.turns.self c.turns.tokens) _ c.turns._turn c.turns-test.true c.turns.invariant.same in
    first_of (search rules, grind (arith, common_steps))

pub returns-in_err-turn-clause-read : goal.returns-in_err-turn-clause-read
unfolding concatenations_from
returns-in_err-turn-clause-read c =
    let e = one_more (λ n. concatenations_from n c.args.site c.turns.draft c.turns.self c.turns.tokens) _ c.turns._turn c.turns-test.true c.turns.invariant.same in
    first_of (search rules, grind (arith, common_steps))

pub turns-preserved : goal.turns-preserved
unfolding concatenations_from
turns-preserved c =
    let e = one_more (λ n. concatenations_from n c.args.site c.turns.draft c.turns.self c.turns.tokens) _ c.turns._turn c.turns-test.true c.turns.invariant.same in
    record {
      same = first_of (search rules, grind (arith, common_steps));
      depth = first_of (search rules, grind (arith, common_steps));
      few = first_of (search rules, grind (arith, common_steps));
      grown = grows_on _ _ _ c.turns.invariant.grown (first_of (search rules, grind (arith, common_steps)));
      bits = first_of (search rules, grind (arith, common_steps));
    }

pub returns-clause-read : goal.returns-clause-read
unfolding concatenations_from
returns-clause-read c =
    let e = no_more (λ n. concatenations_from n c.args.site c.turns.draft c.turns.self c.turns.tokens) _ c.turns._turn c.turns-test.false c.turns.invariant.same in
    first_of (search rules, grind (arith, common_steps))
