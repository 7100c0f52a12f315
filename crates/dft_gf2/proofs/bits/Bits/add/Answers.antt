use Rattle.std.proofs.Common.{ℕ, List, ◌≡◌, arith, rules, ap, subst, sym, ◌∙◌, length}
use Rattle.std.specs.Vec.{with_items}
use Rattle.std.proofs.lemmas.List.{with_items_is}
use Rattle.dft_base.specs.Packed.{packed_bit}
use Rattle.dft_base.specs.Solutions.{bit_at, xor}
use Rattle.dft_lanes.specs.Rows.{bits_of, IsPacked}
use Rattle.dft_gf2.proofs.BitsLemmas.{size_of}
use Rattle.dft_gf2.proofs.Firsts.{ends_by_words, sums_packed, sums_at}
use Rattle.dft_gf2.proofs.bits.Bits.add.Goals as goal

pub add_first-requires-clause-within : goal.add_first-requires-clause-within
add_first-requires-clause-within c =
    let size = size_of c.self.inside.count c.self.inside.words.items c.args.self.now c.self.view_is in
    omega (arith, c.self.invariant.packed.size)

pub add_first-requires-clause-others : goal.add_first-requires-clause-others
add_first-requires-clause-others c =
    let other = size_of c.other.inside.count c.other.inside.words.items c.args.other.now c.other.view_is in
    omega (arith, c.other.invariant.packed.size)

pub add_first-requires-clause-end : goal.add_first-requires-clause-end
add_first-requires-clause-end c =
    rw c.deref.ensures.value (ends_by_words c.other.inside.count c.args.last c.other.inside.words.items c.args.other.now c.other.invariant.packed c.other.view_is c.requires.end)

pub invariant_of-self : goal.invariant_of-self
invariant_of-self c =
    let size = size_of c.self.inside.count c.self.inside.words.items c.args.self.now c.self.view_is in
    let items : (with_items c.self.inside.words c.add_first.new.words).items ≡ c.add_first.new.words = with_items_is c.self.inside.words c.add_first.new.words (search rules) in
    record {
      few = c.self.invariant.few;
      packed = subst (IsPacked c.self.inside.count) (sym items) (sums_packed c.self.inside.count c.other.inside.count c.args.last c.self.inside.words.items c.other.inside.words.items _ c.args.other.now (omega arith)
          c.self.invariant.packed c.other.invariant.packed c.other.view_is c.requires.end (c.add_first.ensures.size ∙ ap length c.deref_mut.ensures.value)
          (λ k. c.add_first.ensures.sums k ∙ (λ t. xor (packed_bit (c.deref_mut.ensures.value t) k) (packed_bit (c.deref.ensures.value t) k))));
    }

pub returns-clause-sums : goal.returns-clause-sums
returns-clause-sums c = λ k.
    let size = size_of c.self.inside.count c.self.inside.words.items c.args.self.now c.self.view_is in
    let items : (with_items c.self.inside.words c.add_first.new.words).items ≡ c.add_first.new.words = with_items_is c.self.inside.words c.add_first.new.words (search rules) in
    ap (λ (words : List ℕ). bit_at (bits_of c.self.inside.count words) k) items
    ∙ sums_at c.self.inside.count c.other.inside.count c.args.last c.self.inside.words.items c.other.inside.words.items _ c.args.self.now c.args.other.now (omega arith)
    c.self.invariant.packed c.other.invariant.packed c.self.view_is c.other.view_is c.requires.end (c.add_first.ensures.size ∙ ap length c.deref_mut.ensures.value)
    (λ j. c.add_first.ensures.sums j ∙ (λ t. xor (packed_bit (c.deref_mut.ensures.value t) j) (packed_bit (c.deref.ensures.value t) j))) k
