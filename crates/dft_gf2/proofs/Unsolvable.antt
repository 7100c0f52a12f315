-- A certificate refutes its equations.
use Rattle.std.proofs.Common.{ℕ, zero, suc, Bool, List, [], ◌∷◌, ◌++◌, ◌<◌, length, sym, arith, ◌∙◌, inl, inr}
use Rattle.std.specs.Prelude.{◌&&◌}
use Rattle.std.proofs.lemmas.Bool.{and_left, false≢true}
use Rattle.dft_base.specs.Solutions.{Equation, equation_at, Holds, Solves, odd_at, StatesFrom}
use Rattle.dft_base.proofs.SumLemmas.{sum_zero}
use Rattle.dft_gf2.specs.Laws.{CertifiedIsUnsolvable, StatedIsUnsolvable}
use Rattle.dft_gf2.proofs.Restorations.{sum_picked, solves_push}

pub certified_unsolvable : CertifiedIsUnsolvable
certified_unsolvable n es picks certificate solved =
    false≢true (sym (sum_zero n (λ c. odd_at picks es c && solved.0 c) (λ c less. and_left (odd_at picks es c) (solved.0 c) (certificate.even c less)))
    ∙ sum_picked n es picks solved.0 solved.1 ∙ certificate.odd)

pub solves_cons : (n : ℕ) (x : ℕ → Bool) (e : Equation) (es : List Equation) → Holds n x e → Solves n x es → Solves n x (e ∷ es)
solves_cons n x e es one all = λ j. at j where
  at : (j : ℕ) → j < length (e ∷ es) → Holds n x (equation_at (e ∷ es) j)
  at zero less = one
  at (suc j) less = all j (omega arith)

refuted : (n : ℕ) (kept es : List Equation) (ids : List ℕ) (x : ℕ → Bool) → StatesFrom n kept es ids → Solves n x kept → Solves n x es → ⊥
refuted n kept [] ids x states before all = states
refuted n kept (e ∷ es) ids x states before all =
    let first : Holds n x e = all 0 (omega arith) in
    let rest : Solves n x es = λ j less. all (suc j) (omega arith) in
    elim states [
      | inl keep ↦ refuted n (kept ++ e ∷ []) es ids x keep.1 (solves_push n x kept e before first) rest
      | inr other ↦ elim other [ inl implied ↦ refuted n kept es ids x implied.2 before rest | inr here ↦ here.none x before first ]
    ]

pub stated_unsolvable : StatedIsUnsolvable
stated_unsolvable n es ids states solved = refuted n [] es ids solved.0 states (λ j less. absurd (omega arith)) solved.1
