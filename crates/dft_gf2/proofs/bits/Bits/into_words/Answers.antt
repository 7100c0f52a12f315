use Rattle.std.proofs.Common.{◌∙◌}
use Rattle.dft_gf2.proofs.BitsLemmas.{packed_by, listed_by}
use Rattle.dft_gf2.proofs.bits.Bits.into_words.Goals as goal

pub returns-clause-packed : goal.returns-clause-packed
returns-clause-packed c = packed_by c.self.inside.count c.self.inside.words.items c.args.self c.self.invariant.packed c.self.view_is

pub returns-clause-bits : goal.returns-clause-bits
returns-clause-bits c = listed_by c.self.inside.count c.self.inside.words.items c.self.inside.words.items c.args.self c.self.view_is ∙ c.self.view_is
