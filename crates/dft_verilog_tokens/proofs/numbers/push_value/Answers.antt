use Rattle.std.proofs.Common.{rules, arith}
use Rattle.std.proofs.lemmas.Grind.{common_steps}
use Rattle.dft_verilog_tokens.proofs.DigitLemmas.{bits_more}
use Rattle.dft_verilog_tokens.proofs.numbers.push_value.Goals as goal

pub loop-left-preserved : goal.loop-left-preserved
loop-left-preserved c =
    let more = bits_more c.loop-left.bits _ c.loop-left.left c.args.value (search rules) c.loop-left.invariant.same in
    record { same = first_of (search rules, grind (arith, common_steps)); few = first_of (search rules, grind (arith, common_steps)) }
