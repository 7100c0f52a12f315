use Rattle.std.proofs.Common.{rules, arith}
use Rattle.std.proofs.lemmas.Grind.{common_steps}
use Rattle.dft_base.proofs.Turns.{one_more, no_more}
use Rattle.dft_modules.specs.SubInstances.{sub_instances_from}
use Rattle.dft_verilog_module.specs.SaidModules.{said}
use Rattle.dft_verilog_module.proofs.module_instances.listed_instances.Goals as goal

pub returns-in_err-sub_instance-clause-read : goal.returns-in_err-sub_instance-clause-read
unfolding sub_instances_from
returns-in_err-sub_instance-clause-read c =
    let e = one_more (λ n. sub_instances_from n c.args.of.now (said c.turns.draft c.turns.subs.items) c.turns.tokens) _ c.turns._turn c.turns-test.true c.turns.invariant.same in
    first_of (search rules, grind (arith, common_steps))

pub returns-then-not-eat-clause-read : goal.returns-then-not-eat-clause-read
unfolding sub_instances_from
returns-then-not-eat-clause-read c =
    let e = one_more (λ n. sub_instances_from n c.args.of.now (said c.turns.draft c.turns.subs.items) c.turns.tokens) _ c.turns._turn c.turns-test.true c.turns.invariant.same in
    first_of (search rules, grind (arith, common_steps))

pub turns-preserved : goal.turns-preserved
unfolding sub_instances_from
turns-preserved c =
    let e = one_more (λ n. sub_instances_from n c.args.of.now (said c.turns.draft c.turns.subs.items) c.turns.tokens) _ c.turns._turn c.turns-test.true c.turns.invariant.same in
    record { same = first_of (search rules, grind (arith, common_steps)); library = first_of (search rules, grind (arith, common_steps)) }

pub returns-clause-read : goal.returns-clause-read
unfolding sub_instances_from
returns-clause-read c =
    let e = no_more (λ n. sub_instances_from n c.args.of.now (said c.turns.draft c.turns.subs.items) c.turns.tokens) _ c.turns._turn c.turns-test.false c.turns.invariant.same in
    first_of (search rules, grind (arith, common_steps))
