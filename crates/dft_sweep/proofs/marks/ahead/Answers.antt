-- The lowest bit from a place on.
use Rattle.std.proofs.Common.{arith}
use Rattle.dft_sweep.proofs.Placings.{none_ahead, next_ahead, rest_fits}
use Rattle.dft_sweep.proofs.marks.ahead.Goals as goal

pub returns-then-rest-eq0 : goal.returns-then-rest-eq0
returns-then-rest-eq0 c = λ i low high. none_ahead c.args.word c.args.from i (let h = c.requires in omega arith) c.if-rest-eq0.true low high

pub returns-else-rest-eq0 : goal.returns-else-rest-eq0
returns-else-rest-eq0 c = next_ahead c.args.word c.args.from (let h = c.requires in omega arith) (let h = c.if-rest-eq0.false in omega arith) (rest_fits c.args.word c.args.from c.ranges.word.fits)
