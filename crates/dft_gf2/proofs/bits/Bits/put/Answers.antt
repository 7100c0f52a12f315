use Rattle.std.proofs.Common.{ℕ, List, ◌≡◌, length, arith, rules, ap, subst, sym, ◌∙◌}
use Rattle.std.specs.Vec.{with_items}
use Rattle.std.proofs.lemmas.List.{with_items_is}
use Rattle.dft_lanes.specs.Rows.{bits_of, IsPacked}
use Rattle.dft_gf2.proofs.BitsLemmas.{IsPut, size_of, put_packed, put_listed}
use Rattle.dft_gf2.proofs.bits.Bits.put.Goals as goal

pub put-requires : goal.put-requires
put-requires c =
    let size = size_of c.self.inside.count c.self.inside.words.items c.args.self.now c.self.view_is in
    omega (arith, c.self.invariant.packed.size, c.requires)

pub invariant_of-self : goal.invariant_of-self
invariant_of-self c =
    let size = size_of c.self.inside.count c.self.inside.words.items c.args.self.now c.self.view_is in
    let items : (with_items c.self.inside.words c.put.new.row).items ≡ c.put.new.row = with_items_is c.self.inside.words c.put.new.row (search rules) in
    let long : length c.put.new.row ≡ length c.self.inside.words.items = search rules in
    let P : List ℕ → Type 0 = λ words. IsPut words c.args.place c.args.bit c.put.new.row in
    record {
      few = c.self.invariant.few;
      packed = subst (IsPacked c.self.inside.count) (sym items)
          (put_packed c.self.inside.count c.self.inside.words.items c.put.new.row c.args.place c.args.bit c.self.invariant.packed (omega (arith, c.requires)) long (subst P c.deref_mut.ensures.value c.put.ensures));
    }

pub returns : goal.returns
returns c =
    let items : (with_items c.self.inside.words c.put.new.row).items ≡ c.put.new.row = with_items_is c.self.inside.words c.put.new.row (search rules) in
    let long : length c.put.new.row ≡ length c.self.inside.words.items = search rules in
    let P : List ℕ → Type 0 = λ words. IsPut words c.args.place c.args.bit c.put.new.row in
    ap (bits_of c.self.inside.count) items
    ∙ put_listed c.self.inside.count c.self.inside.words.items c.put.new.row c.args.self.now c.args.place c.args.bit c.self.invariant.packed c.self.view_is c.requires long (subst P c.deref_mut.ensures.value c.put.ensures)
