use Rattle.std.proofs.Common.{arith}
use Rattle.dft_verilog_tokens.proofs.ClassLemmas.{classes-in_word}
use Rattle.dft_verilog_tokens.proofs.classes.is_in_word.Goals as goal

pub returns : goal.returns
returns c = classes-in_word c.args.byte (omega (arith, c.ranges.byte))
