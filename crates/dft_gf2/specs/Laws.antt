-- What certificates tell of a list of equations.
use Rattle.std.specs.Prelude.{ℕ, Bool, List, ◌≡◌, ◌<◌, length}
use Rattle.dft_base.specs.Solutions.{Equation, equation_at, IsSolvable, IsCertificate, StatesCertificate, IsChosen}

-- equations with a certificate have no solution
abbrev pub CertifiedIsUnsolvable : Type 0
CertifiedIsUnsolvable = (n : ℕ) (es : List Equation) (picks : ℕ → Bool) → IsCertificate n es picks → IsSolvable n es → ⊥

-- equations with a stated certificate have no solution
abbrev pub StatedIsUnsolvable : Type 0
StatedIsUnsolvable = (n : ℕ) (es : List Equation) (ids : List ℕ) → StatesCertificate n es ids → IsSolvable n es → ⊥

-- equations of n columns without solution have a stated certificate
abbrev pub UnsolvableIsStated : Type 0
UnsolvableIsStated =
    (n : ℕ) (es : List Equation) → ((j : ℕ) → j < length es → length (equation_at es j).row ≡ n) → (IsSolvable n es → ⊥) →
    (ids : List ℕ) × StatesCertificate n es ids

-- the stated certificate of a list of equations is one
abbrev pub StatedIsOne : Type 0
StatedIsOne = (n : ℕ) (es : List Equation) (ids others : List ℕ) → StatesCertificate n es ids → StatesCertificate n es others → ids ≡ others

-- the bits that a fill chooses for a list of equations are one list
abbrev pub ChosenIsOne : Type 0
ChosenIsOne = (n : ℕ) (es : List Equation) (fill bits others : List Bool) → IsChosen n es fill bits → IsChosen n es fill others → bits ≡ others
