use Rattle.std.proofs.Common.{rules, arith}
use Rattle.std.proofs.lemmas.Grind.{common_steps}
use Rattle.dft_base.proofs.Turns.{one_more, no_more}
use Rattle.dft_modules.specs.SubInstances.{module_items, module_items_from}
use Rattle.dft_verilog_module.specs.SaidModules.{said}
use Rattle.dft_verilog_module.proofs.modules.module_items.Goals as goal

pub turns-init : goal.turns-init
unfolding module_items
turns-init c = first_of (search rules, grind (arith, common_steps))

pub returns-then-sees-clause-read : goal.returns-then-sees-clause-read
unfolding module_items_from
returns-then-sees-clause-read c =
    let e = one_more (λ n. module_items_from n (said c.turns.draft c.turns.subs.items) c.turns.tokens) _ c.turns._turn c.turns-test.true c.turns.invariant.same in
    first_of (search rules, grind (arith, common_steps))

pub returns-in_err-module_item-clause-read : goal.returns-in_err-module_item-clause-read
unfolding module_items_from
returns-in_err-module_item-clause-read c =
    let e = one_more (λ n. module_items_from n (said c.turns.draft c.turns.subs.items) c.turns.tokens) _ c.turns._turn c.turns-test.true c.turns.invariant.same in
    first_of (search rules, grind (arith, common_steps))

pub turns-preserved : goal.turns-preserved
unfolding module_items_from
turns-preserved c =
    let e = one_more (λ n. module_items_from n (said c.turns.draft c.turns.subs.items) c.turns.tokens) _ c.turns._turn c.turns-test.true c.turns.invariant.same in
    record { same = first_of (search rules, grind (arith, common_steps)); library = first_of (search rules, grind (arith, common_steps)) }

pub returns-clause-read : goal.returns-clause-read
unfolding module_items_from
returns-clause-read c =
    let e = no_more (λ n. module_items_from n (said c.turns.draft c.turns.subs.items) c.turns.tokens) _ c.turns._turn c.turns-test.false c.turns.invariant.same in
    first_of (search rules, grind (arith, common_steps))
