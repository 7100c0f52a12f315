use Rattle.std.proofs.Common.{rules, arith}
use Rattle.std.proofs.lemmas.Grind.{common_steps}
use Rattle.dft_base.proofs.Turns.{one_more, no_more}
use Rattle.dft_netlist_text.specs.NetlistText.{declared_ports, declared_ports_from}
use Rattle.dft_verilog_module.specs.PortDeclarations.{port_declaration_as}
use Rattle.dft_verilog_module.proofs.header.declared_ports.Goals as goal

pub turns-init : goal.turns-init
unfolding declared_ports
turns-init c = first_of (search rules, grind (arith, common_steps))

pub returns-in_err-here-clause-read : goal.returns-in_err-here-clause-read
unfolding declared_ports_from
returns-in_err-here-clause-read c =
    let e = one_more (λ n. declared_ports_from n (port_declaration_as c.turns.here) c.turns.draft c.turns.tokens) _ c.turns._turn c.turns-test.true c.turns.invariant.same in
    first_of (search rules, grind (arith, common_steps))

pub returns-in_err-declared_port-clause-read : goal.returns-in_err-declared_port-clause-read
unfolding declared_ports_from
returns-in_err-declared_port-clause-read c =
    let e = one_more (λ n. declared_ports_from n (port_declaration_as c.turns.here) c.turns.draft c.turns.tokens) _ c.turns._turn c.turns-test.true c.turns.invariant.same in
    first_of (search rules, grind (arith, common_steps))

pub returns-then-not-eat-clause-read : goal.returns-then-not-eat-clause-read
unfolding declared_ports_from
returns-then-not-eat-clause-read c =
    let e = one_more (λ n. declared_ports_from n (port_declaration_as c.turns.here) c.turns.draft c.turns.tokens) _ c.turns._turn c.turns-test.true c.turns.invariant.same in
    first_of (search rules, grind (arith, common_steps))

pub turns-preserved : goal.turns-preserved
unfolding declared_ports_from
turns-preserved c =
    let e = one_more (λ n. declared_ports_from n (port_declaration_as c.turns.here) c.turns.draft c.turns.tokens) _ c.turns._turn c.turns-test.true c.turns.invariant.same in
    record { same = first_of (search rules, grind (arith, common_steps)); library = first_of (search rules, grind (arith, common_steps)) }

pub returns-clause-read : goal.returns-clause-read
unfolding declared_ports_from
returns-clause-read c =
    let e = no_more (λ n. declared_ports_from n (port_declaration_as c.turns.here) c.turns.draft c.turns.tokens) _ c.turns._turn c.turns-test.false c.turns.invariant.same in
    first_of (search rules, grind (arith, common_steps))
