use Rattle.std.proofs.Common.{rules, arith}
use Rattle.std.proofs.lemmas.Grind.{common_steps}
use Rattle.dft_base.proofs.Turns.{one_more, no_more}
use Rattle.dft_netlist_text.specs.NetlistText.{announced_names, announced_names_from}
use Rattle.dft_verilog_module.proofs.header.announced_names.Goals as goal

pub turns-init : goal.turns-init
unfolding announced_names
turns-init c = first_of (search rules, grind (arith, common_steps))

pub returns-in_err-announced_name-clause-read : goal.returns-in_err-announced_name-clause-read
unfolding announced_names_from
returns-in_err-announced_name-clause-read c =
    let e = one_more (λ n. announced_names_from n c.turns.draft c.turns.tokens) _ c.turns._turn c.turns-test.true c.turns.invariant.same in
    first_of (search rules, grind (arith, common_steps))

pub returns-then-not-eat-clause-read : goal.returns-then-not-eat-clause-read
unfolding announced_names_from
returns-then-not-eat-clause-read c =
    let e = one_more (λ n. announced_names_from n c.turns.draft c.turns.tokens) _ c.turns._turn c.turns-test.true c.turns.invariant.same in
    first_of (search rules, grind (arith, common_steps))

pub turns-preserved : goal.turns-preserved
unfolding announced_names_from
turns-preserved c =
    let e = one_more (λ n. announced_names_from n c.turns.draft c.turns.tokens) _ c.turns._turn c.turns-test.true c.turns.invariant.same in
    record { same = first_of (search rules, grind (arith, common_steps)); library = first_of (search rules, grind (arith, common_steps)) }

pub returns-clause-read : goal.returns-clause-read
unfolding announced_names_from
returns-clause-read c =
    let e = no_more (λ n. announced_names_from n c.turns.draft c.turns.tokens) _ c.turns._turn c.turns-test.false c.turns.invariant.same in
    first_of (search rules, grind (arith, common_steps))
