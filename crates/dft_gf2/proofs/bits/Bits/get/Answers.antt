use Rattle.std.proofs.Common.{ℕ, List, arith, ap, sym, ◌∙◌}
use Rattle.dft_base.specs.Packed.{packed_bit}
use Rattle.dft_gf2.proofs.BitsLemmas.{at, size_of}
use Rattle.dft_gf2.proofs.bits.Bits.get.Goals as goal

pub has_bit-requires : goal.has_bit-requires
has_bit-requires c =
    let size = size_of c.self.inside.count c.self.inside.words.items c.args.self.now c.self.view_is in
    omega (arith, c.self.invariant.packed.size, c.requires)

pub returns : goal.returns
returns c =
    c.has_bit.ensures ∙ ap (λ (words : List ℕ). packed_bit words c.args.place) c.deref.ensures.value
    ∙ sym (at c.self.inside.count c.self.inside.words.items c.args.self.now c.self.invariant.packed c.self.view_is c.args.place)
