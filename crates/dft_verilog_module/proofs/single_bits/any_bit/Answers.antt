use Rattle.std.proofs.Common.{List, rules, arith, subst}
use Rattle.std.proofs.lemmas.Grind.{common_steps}
use Rattle.dft_netlist.specs.declared.instance.Signal.{Signal}
use Rattle.dft_netlist_text.specs.Items.{one_bit}
use Rattle.dft_verilog_tokens.specs.Reading.{Reads}
use Rattle.dft_verilog_module.proofs.single_bits.any_bit.Goals as goal

pub returns-clause-read : goal.returns-clause-read
returns-clause-read c =
    let d = c.expression.new.draft in
    let ts = c.expression.new.tokens in
    let one = subst (λ (bits : List Signal). Reads (λ bit. (d, bit)) (one_bit c.args.place d bits ts) c.one_bit.result ts) c.as_slice.ensures (c.one_bit.ensures.read d ts) in
    first_of (search rules, grind (arith, common_steps))
