use Rattle.std.proofs.Common.{arith}
use Rattle.dft_verilog_tokens.proofs.ClassLemmas.{classes-plain}
use Rattle.dft_verilog_tokens.proofs.classes.is_plain.Goals as goal

pub returns : goal.returns
returns c = classes-plain c.args.byte (omega (arith, c.ranges.byte))
