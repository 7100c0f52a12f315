use Rattle.std.proofs.Common.{ℕ, List, ◌≡◌, replicate, arith, ap, subst, sym, ◌∙◌}
use Rattle.std.specs.Vec.{vec_len}
use Rattle.dft_base.specs.Solutions.{bit_at}
use Rattle.dft_lanes.specs.Rows.{bits_of, IsPacked}
use Rattle.dft_lanes.proofs.RowLemmas.{bits-at}
use Rattle.dft_gf2.proofs.BitsLemmas.{zero_at, zeros_packed}
use Rattle.dft_gf2.proofs.bits.Bits.clear.Goals as goal

pub invariant_of-self : goal.invariant_of-self
invariant_of-self c =
    let zeros : c.fill.new.self.items ≡ replicate {A = ℕ} (vec_len c.self.inside.words) 0 = c.fill.ensures.items (λ y is. is) in
    record { few = c.self.invariant.few; packed = subst (IsPacked c.self.inside.count) (sym zeros) (zeros_packed c.self.inside.count _ (omega (arith, c.self.invariant.packed.size))) }

pub returns-clause-zeros : goal.returns-clause-zeros
returns-clause-zeros c = λ k.
    let zeros : c.fill.new.self.items ≡ replicate {A = ℕ} (vec_len c.self.inside.words) 0 = c.fill.ensures.items (λ y is. is) in
    ap (λ (words : List ℕ). bit_at (bits_of c.self.inside.count words) k) zeros
    ∙ bits-at _ c.self.inside.count k (λ place past. zero_at (vec_len c.self.inside.words) place) ∙ zero_at (vec_len c.self.inside.words) k
