use Rattle.std.proofs.Common.{rules, arith}
use Rattle.std.proofs.lemmas.Grind.{common_steps}
use Rattle.dft_base.proofs.Turns.{one_more, no_more}
use Rattle.dft_netlist_text.specs.Items.{net_assignments, net_assignments_from}
use Rattle.dft_verilog_module.proofs.assignments.net_assignments.Goals as goal

pub turns-init : goal.turns-init
unfolding net_assignments
turns-init c = first_of (search rules, grind (arith, common_steps))

pub returns-in_err-net_assignment-clause-read : goal.returns-in_err-net_assignment-clause-read
unfolding net_assignments_from
returns-in_err-net_assignment-clause-read c =
    let e = one_more (λ n. net_assignments_from n c.turns.draft c.turns.tokens) _ c.turns._turn c.turns-test.true c.turns.invariant.same in
    first_of (search rules, grind (arith, common_steps))

pub returns-then-not-eat-clause-read : goal.returns-then-not-eat-clause-read
unfolding net_assignments_from
returns-then-not-eat-clause-read c =
    let e = one_more (λ n. net_assignments_from n c.turns.draft c.turns.tokens) _ c.turns._turn c.turns-test.true c.turns.invariant.same in
    first_of (search rules, grind (arith, common_steps))

pub turns-preserved : goal.turns-preserved
unfolding net_assignments_from
turns-preserved c =
    let e = one_more (λ n. net_assignments_from n c.turns.draft c.turns.tokens) _ c.turns._turn c.turns-test.true c.turns.invariant.same in
    record { same = first_of (search rules, grind (arith, common_steps)); library = first_of (search rules, grind (arith, common_steps)) }

pub returns-clause-read : goal.returns-clause-read
unfolding net_assignments_from
returns-clause-read c =
    let e = no_more (λ n. net_assignments_from n c.turns.draft c.turns.tokens) _ c.turns._turn c.turns-test.false c.turns.invariant.same in
    first_of (search rules, grind (arith, common_steps))
