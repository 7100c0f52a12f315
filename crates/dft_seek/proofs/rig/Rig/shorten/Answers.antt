-- The variable behind the bits has none.
use Rattle.std.proofs.Common.{refl}
use Rattle.dft_seek.proofs.OpenLemmas.{at_shrunk}
use Rattle.dft_seek.proofs.rig.Rig.shorten.Goals as goal

pub returns-clause-at : goal.returns-clause-at
returns-clause-at c = λ bit at. at_shrunk c.args.self.now c.args.cone.now c.args.bits.now bit _ c.args.v.now c.give.new.v c.requires.once refl c.give.ensures.given at
