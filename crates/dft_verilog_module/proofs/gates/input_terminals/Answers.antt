use Rattle.std.proofs.Common.{rules, arith}
use Rattle.std.proofs.lemmas.Grind.{common_steps}
use Rattle.dft_base.proofs.Turns.{one_more, no_more}
use Rattle.dft_netlist_text.specs.Items.{input_terminals, input_terminals_from}
use Rattle.dft_verilog_draft.proofs.OperandLemmas.{grows_on, bits_and}
use Rattle.dft_verilog_module.proofs.gates.input_terminals.Goals as goal

pub turns-init : goal.turns-init
unfolding input_terminals
turns-init c = first_of (search rules, grind (arith, common_steps))

pub returns-in_err-terminal-clause-read : goal.returns-in_err-terminal-clause-read
unfolding input_terminals_from
returns-in_err-terminal-clause-read c =
    let e = one_more (λ n. input_terminals_from n c.turns.draft c.turns.inputs c.turns.tokens) _ c.turns._turn c.turns-test.true c.turns.invariant.same in
    first_of (search rules, grind (arith, common_steps))

pub returns-then-not-eat-clause-read : goal.returns-then-not-eat-clause-read
unfolding input_terminals_from
returns-then-not-eat-clause-read c =
    let e = one_more (λ n. input_terminals_from n c.turns.draft c.turns.inputs c.turns.tokens) _ c.turns._turn c.turns-test.true c.turns.invariant.same in
    first_of (search rules, grind (arith, common_steps))

pub turns-preserved : goal.turns-preserved
unfolding input_terminals_from
turns-preserved c =
    let e = one_more (λ n. input_terminals_from n c.turns.draft c.turns.inputs c.turns.tokens) _ c.turns._turn c.turns-test.true c.turns.invariant.same in
    record { same = first_of (search rules, grind (arith, common_steps)); grown = grows_on _ _ _ c.turns.invariant.grown (first_of (search rules, grind (arith, common_steps))); bits = first_of (search (rules, bits_and, grows_on), grind (arith, common_steps)) }

pub returns-clause-read : goal.returns-clause-read
unfolding input_terminals_from
returns-clause-read c =
    let e = no_more (λ n. input_terminals_from n c.turns.draft c.turns.inputs c.turns.tokens) _ c.turns._turn c.turns-test.false c.turns.invariant.same in
    first_of (search rules, grind (arith, common_steps))
