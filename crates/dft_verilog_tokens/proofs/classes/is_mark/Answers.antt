use Rattle.std.proofs.Common.{arith}
use Rattle.dft_verilog_tokens.specs.Classes.{is_mark}
use Rattle.dft_verilog_tokens.proofs.ClassLemmas.{classes-mark, mark-from, mark-below}
use Rattle.dft_verilog_tokens.proofs.classes.is_mark.Goals as goal

pub returns-then-class-ge2 : goal.returns-then-class-ge2
returns-then-class-ge2 c = mark-from _ (is_mark c.args.byte) (classes-mark c.args.byte (omega (arith, c.ranges.byte))) c.if-class-ge2.true

pub returns-else-class-ge2 : goal.returns-else-class-ge2
returns-else-class-ge2 c = mark-below _ (is_mark c.args.byte) (classes-mark c.args.byte (omega (arith, c.ranges.byte))) c.if-class-ge2.false
