use Rattle.std.proofs.Common.{◌≡◌, arith, ◌∙◌}
use Rattle.dft_lanes.specs.Sums.{odd_common}
use Rattle.dft_gf2.proofs.BitsLemmas.{size_of, sum_listed}
use Rattle.dft_gf2.proofs.bits.Bits.sum_with.Goals as goal

pub parity_and-requires : goal.parity_and-requires
parity_and-requires c =
    let size = size_of c.self.inside.count c.self.inside.words.items c.args.self.now c.self.view_is in
    let other = size_of c.other.inside.count c.other.inside.words.items c.args.other.now c.other.view_is in
    let same : c.other.inside.count ≡ c.self.inside.count = omega (arith, c.requires) in
    omega (arith, c.self.invariant.packed.size, c.other.invariant.packed.size)

pub returns : goal.returns
returns c =
    let size = size_of c.self.inside.count c.self.inside.words.items c.args.self.now c.self.view_is in
    let other = size_of c.other.inside.count c.other.inside.words.items c.args.other.now c.other.view_is in
    let same : c.other.inside.count ≡ c.self.inside.count = omega (arith, c.requires) in
    c.parity_and.ensures ∙ (λ t. odd_common (c.deref.ensures.value t) (c.deref-2.ensures.value t))
    ∙ sum_listed c.self.inside.count c.other.inside.count _ _ c.args.self.now c.args.other.now same c.self.invariant.packed c.other.invariant.packed c.self.view_is c.other.view_is
