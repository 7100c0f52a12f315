-- The closure answers by the list.
use Rattle.std.proofs.Common.{rules}
use Rattle.dft_expect.proofs.policy.MaskPolicy.mask.Goals as goal

pub returns : goal.returns
returns g c = (c.requires.answers c.args.chain c.args.unknown (search rules) c.requires.within).1 _ c.answer.ensures
