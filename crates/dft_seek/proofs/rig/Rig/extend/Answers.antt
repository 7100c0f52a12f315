-- The variable at the end of the bits has the new one.
use Rattle.std.proofs.Common.{◌∙◌}
use Rattle.dft_seek.proofs.OpenLemmas.{at_grown}
use Rattle.dft_seek.proofs.rig.Rig.extend.Goals as goal

pub returns-clause-at : goal.returns-clause-at
returns-clause-at c =
    at_grown c.args.self.now c.args.cone.now c.args.bits.now.items c.push_reserved.new.self.items c.args.bit c.len.result c.known.result c.args.v.now c.give.new.v c.requires.once (c.len.ensures ∙ c.args.bits.now.ok.0) c.known.ensures
    c.push_reserved.ensures.items c.give.ensures.given c.requires.at
