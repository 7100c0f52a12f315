use Rattle.std.proofs.Common.{arith, ap, subst, sym, ◌∙◌}
use Rattle.dft_lanes.specs.Rows.{bits_of, IsPacked}
use Rattle.dft_gf2.proofs.BitsLemmas.{packed_of, listed_by}
use Rattle.dft_gf2.proofs.bits.Bits.copy_from.Goals as goal

pub copy_from_slice-requires : goal.copy_from_slice-requires
copy_from_slice-requires c =
    let packed : IsPacked c.self.inside.count c.args.words.now = packed_of c.self.inside.count c.self.inside.words.items c.args.words.now c.args.self.now c.self.view_is c.requires in
    omega (arith, c.self.invariant.packed.size, packed.size)

pub invariant_of-self : goal.invariant_of-self
invariant_of-self c = record {
  few = c.self.invariant.few;
  packed = subst (IsPacked c.self.inside.count) (sym c.copy_from_slice.ensures.items)
      (packed_of c.self.inside.count c.self.inside.words.items c.args.words.now c.args.self.now c.self.view_is c.requires);
}

pub returns : goal.returns
returns c = ap (bits_of c.self.inside.count) c.copy_from_slice.ensures.items ∙ sym (listed_by c.self.inside.count c.self.inside.words.items c.args.words.now c.args.self.now c.self.view_is)
