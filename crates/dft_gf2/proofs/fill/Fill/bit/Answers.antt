use Rattle.std.proofs.Common.{rules}
use Rattle.dft_gf2.proofs.fill.Fill.bit.Goals as goal

pub returns : goal.returns
returns g c = (c.requires.answers c.args.column (search rules) c.requires.within).1 _ c.answer.ensures
