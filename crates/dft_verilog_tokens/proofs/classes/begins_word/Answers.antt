use Rattle.std.proofs.Common.{arith}
use Rattle.dft_verilog_tokens.proofs.ClassLemmas.{classes-begins_word}
use Rattle.dft_verilog_tokens.proofs.classes.begins_word.Goals as goal

pub returns : goal.returns
returns c = classes-begins_word c.args.byte (omega (arith, c.ranges.byte))
