use Rattle.std.proofs.Common.{ℕ, List, true, false, ◌≡◌, ◌<◌, subst}
use Rattle.std.specs.Prelude.{MatchOption}
use Rattle.dft_base.specs.Packed.{packed_bit}
use Rattle.dft_gf2.proofs.BitsLemmas.{last_found}
use Rattle.dft_gf2.proofs.bits.Bits.last.Goals as goal

pub returns : goal.returns
returns c =
    let P : List ℕ → Type 0 = λ words.
    MatchOption c.highest.result ((k : ℕ) → packed_bit words k ≡ false) (λ top. (packed_bit words top ≡ true) × ((k : ℕ) → top < k → packed_bit words k ≡ false)) in
    last_found c.self.inside.count c.self.inside.words.items c.args.self.now c.highest.result c.self.invariant.packed c.self.view_is (subst P c.deref.ensures.value c.highest.ensures)
