use Rattle.std.proofs.Common.{ℕ, List, ◌≡◌, arith, ap, subst, sym, ◌∙◌, length, take}
use Rattle.std.proofs.lemmas.List.{length-take-le}
use Rattle.dft_base.specs.Solutions.{bit_at}
use Rattle.dft_lanes.specs.Rows.{bits_of, IsPacked}
use Rattle.dft_gf2.proofs.BitsLemmas.{size_of}
use Rattle.dft_gf2.proofs.Firsts.{copied_packed, copied_at}
use Rattle.dft_gf2.proofs.bits.Bits.copy_first.Goals as goal

pub slice_bounds-copy_from_slice-end : goal.slice_bounds-copy_from_slice-end
slice_bounds-copy_from_slice-end c =
    let size = size_of c.self.inside.count c.self.inside.words.items c.args.self.now c.self.view_is in
    let other = size_of c.other.inside.count c.other.inside.words.items c.args.other.now c.other.view_is in
    sym (length-take-le _ _ (omega (arith, c.self.invariant.packed.size, c.other.invariant.packed.size)))

pub copy_from_slice-requires : goal.copy_from_slice-requires
copy_from_slice-requires c =
    let size = size_of c.self.inside.count c.self.inside.words.items c.args.self.now c.self.view_is in
    let other = size_of c.other.inside.count c.other.inside.words.items c.args.other.now c.other.view_is in
    let same : length (take c.len-count.result c.deref.result.now) ≡ c.len-count.result = length-take-le _ _ (omega (arith, c.self.invariant.packed.size, c.other.invariant.packed.size)) in
    sym (same ∙ c.len-count.ensures)

pub invariant_of-self : goal.invariant_of-self
invariant_of-self c =
    let size = size_of c.self.inside.count c.self.inside.words.items c.args.self.now c.self.view_is in
    let other = size_of c.other.inside.count c.other.inside.words.items c.args.other.now c.other.view_is in
    let items : c.copy_from_slice.new.self.items ≡ take c.len-count.result c.other.inside.words.items =
    c.copy_from_slice.ensures.items ∙ ap (take c.len-count.result) c.deref.ensures.value in
    record {
      few = c.self.invariant.few;
      packed = subst (IsPacked c.self.inside.count) (sym items)
          (copied_packed c.self.inside.count c.other.inside.count c.len-count.result c.other.inside.words.items c.args.other.now (omega (arith, c.requires.few)) (omega (arith, c.self.invariant.packed.size))
          c.other.invariant.packed c.other.view_is (λ k past. c.requires.end k (omega arith)));
    }

pub returns-clause-bits : goal.returns-clause-bits
returns-clause-bits c = λ k.
    let size = size_of c.self.inside.count c.self.inside.words.items c.args.self.now c.self.view_is in
    let other = size_of c.other.inside.count c.other.inside.words.items c.args.other.now c.other.view_is in
    let items : c.copy_from_slice.new.self.items ≡ take c.len-count.result c.other.inside.words.items =
    c.copy_from_slice.ensures.items ∙ ap (take c.len-count.result) c.deref.ensures.value in
    ap (λ (words : List ℕ). bit_at (bits_of c.self.inside.count words) k) items
    ∙ copied_at c.self.inside.count c.other.inside.count c.len-count.result c.other.inside.words.items c.args.other.now (omega (arith, c.requires.few)) (omega (arith, c.self.invariant.packed.size))
    c.other.invariant.packed c.other.view_is (λ j past. c.requires.end j (omega arith)) k
