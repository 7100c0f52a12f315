use Rattle.std.proofs.Common.{true, rules, arith}
use Rattle.std.proofs.lemmas.Grind.{common_steps}
use Rattle.dft_verilog_draft.proofs.OperandLemmas.{bit_more}
use Rattle.dft_verilog_module.proofs.GateLemmas.{gate_stands}
use Rattle.dft_verilog_module.proofs.gates.terminals.Goals as goal

pub add_instance-requires-clause-fits : goal.add_instance-requires-clause-fits
add_instance-requires-clause-fits c =
    rw c.new.ensures
    (gate_stands c.input_terminals.new.draft c.args.kind c.args.name c.in_ok-pins.pins c.push.new.self c.input_count-count.result c.in_ok-output.output
    (first_of (search rules, grind (arith, common_steps))) (first_of (search rules, grind (arith, common_steps))) c.requires.primitive (first_of (search rules, grind (arith, common_steps)))
    c.in_ok-pins.ensures.bits (bit_more _ _ true _ c.in_ok-pins.ensures.grown.nets c.in_ok-output.ensures.bit))
