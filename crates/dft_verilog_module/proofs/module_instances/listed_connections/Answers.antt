use Rattle.std.proofs.Common.{rules, arith}
use Rattle.std.proofs.lemmas.Grind.{common_steps}
use Rattle.dft_base.proofs.Turns.{one_more, no_more}
use Rattle.dft_modules.specs.SubInstances.{port_connections_from}
use Rattle.dft_verilog_draft.proofs.OperandLemmas.{grows_on}
use Rattle.dft_verilog_module.proofs.module_instances.listed_connections.Goals as goal

pub returns-in_err-port_connection-clause-read : goal.returns-in_err-port_connection-clause-read
unfolding port_connections_from
returns-in_err-port_connection-clause-read c =
    let e = one_more (λ n. port_connections_from n (c.turns.draft, c.turns.connections) c.turns.tokens) _ c.turns._turn c.turns-test.true c.turns.invariant.same in
    first_of (search rules, grind (arith, common_steps))

pub returns-then-not-eat-clause-read : goal.returns-then-not-eat-clause-read
unfolding port_connections_from
returns-then-not-eat-clause-read c =
    let e = one_more (λ n. port_connections_from n (c.turns.draft, c.turns.connections) c.turns.tokens) _ c.turns._turn c.turns-test.true c.turns.invariant.same in
    first_of (search rules, grind (arith, common_steps))

pub turns-preserved : goal.turns-preserved
unfolding port_connections_from
turns-preserved c =
    let e = one_more (λ n. port_connections_from n (c.turns.draft, c.turns.connections) c.turns.tokens) _ c.turns._turn c.turns-test.true c.turns.invariant.same in
    record { same = first_of (search rules, grind (arith, common_steps)); grown = grows_on _ _ _ c.turns.invariant.grown (first_of (search rules, grind (arith, common_steps))) }

pub returns-clause-read : goal.returns-clause-read
unfolding port_connections_from
returns-clause-read c =
    let e = no_more (λ n. port_connections_from n (c.turns.draft, c.turns.connections) c.turns.tokens) _ c.turns._turn c.turns-test.false c.turns.invariant.same in
    first_of (search rules, grind (arith, common_steps))
