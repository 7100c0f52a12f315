-- Equations that can be solved have bits that a fill chooses.
use Rattle.std.proofs.Common.{ℕ, zero, suc, ◌+◌, ◌<◌, ◌≤◌, ◌≡◌, ◌∙◌, ◌⊎◌, ◌==◌, inl, inr, Bool, true, false, not, List, [], ◌∷◌, length, refl, sym, ap, subst, arith}
use Rattle.std.specs.Prelude.{if◌then◌else◌}
use Rattle.std.proofs.lemmas.Bool.{eqb-true, eq-eqb}
use Rattle.dft_base.specs.Solutions.{Equation, Holds, IsChosen, IsSolvable, Solves, bit_at, equation_at, sum_over}
use Rattle.dft_gf2.proofs.Echelons.{sums_agree}
use Rattle.dft_gf2.proofs.Choices.{other_of}
use Rattle.dft_gf2.proofs.Unsolvable.{solves_cons}

-- ---- tables

-- two tables agree before a column
abbrev Agree : ℕ → (y x : ℕ → Bool) → Type 0
Agree c y x = (d : ℕ) → d < c → y d ≡ x d

-- the table with this bit at a column
abbrev with_bit : (ℕ → Bool) → ℕ → Bool → ℕ → Bool
with_bit x c bit d = if d == c then bit else x d

with_here : (x : ℕ → Bool) (c : ℕ) (bit : Bool) → with_bit x c bit c ≡ bit
with_here x c bit = ap (λ (t : Bool). if t then bit else x c) (eq-eqb c c refl)

here_or_later : (c d : ℕ) → c ≤ d → (c ≡ d) ⊎ (suc c ≤ d)
here_or_later zero zero less = inl refl
here_or_later zero (suc d) less = inr (omega arith)
here_or_later (suc c) zero less = absurd (omega arith)
here_or_later (suc c) (suc d) less = elim (here_or_later c d (omega arith)) [ inl same ↦ inl (ap suc same) | inr past ↦ inr (omega arith) ]

below : (d c : ℕ) → (d == c) ≡ false → d < suc c → (d ≡ c) ⊎ (suc d ≤ c) → d < c
below d c apart less (inl same) = absurd (let e : (d == c) ≡ true = eq-eqb d c same in let f : ⊥ = cc in f)
below d c apart less (inr past) = omega arith

with_case : (x y : ℕ → Bool) (c d : ℕ) (bit : Bool) (t : Bool) → (d == c) ≡ t → Agree c y x → y c ≡ bit → d < suc c → y d ≡ (if t then bit else x d)
with_case x y c d bit true is agree here less = ap y (eqb-true d c is) ∙ here
with_case x y c d bit false is agree here less = agree d (below d c is less (here_or_later d c (omega arith)))

-- a table that agrees before a column and has the bit there agrees with the table with this bit
agree_more : (x y : ℕ → Bool) (c : ℕ) (bit : Bool) → Agree c y x → y c ≡ bit → Agree (suc c) y (with_bit x c bit)
agree_more x y c bit agree here d less = with_case x y c d bit (d == c) refl agree here less

less_case : (x y : ℕ → Bool) (c d : ℕ) (bit : Bool) (t : Bool) → (d == c) ≡ t → d < c → y d ≡ (if t then bit else x d) → y d ≡ x d
less_case x y c d bit true is less same = absurd (let e = eqb-true d c is in omega (arith, e))
less_case x y c d bit false is less same = same

agree_less : (x y : ℕ → Bool) (c : ℕ) (bit : Bool) → Agree (suc c) y (with_bit x c bit) → Agree c y x
agree_less x y c bit agree d less = less_case x y c d bit (d == c) refl less (agree d (omega arith))

-- ---- solutions that agree

solves_along : (n : ℕ) (es : List Equation) (y x : ℕ → Bool) → Agree n y x → Solves n y es → Solves n x es
solves_along n es y x agree solves j less = sym (sums_agree n (equation_at es j).row x y agree) ∙ solves j less

-- some solution agrees with the table before the column
abbrev Extends : ℕ → List Equation → ℕ → (ℕ → Bool) → Type 0
Extends n es c x = (y : ℕ → Bool) × (Solves n y es × Agree c y x)

same_bit : (a b : Bool) → (a ≡ b) ⊎ (a ≡ b → ⊥)
same_bit true true = inl refl
same_bit true false = inr (λ e. cc)
same_bit false true = inr (λ e. cc)
same_bit false false = inl refl

both_solved : (n : ℕ) (x : ℕ → Bool) (e : Equation) (es : List Equation) → Holds n x e ⊎ (Holds n x e → ⊥) → Solves n x es ⊎ (Solves n x es → ⊥) → Solves n x (e ∷ es) ⊎ (Solves n x (e ∷ es) → ⊥)
both_solved n x e es (inr never) rest = inr (λ all. never (all zero (omega arith)))
both_solved n x e es (inl here) (inr never) = inr (λ all. never (λ j less. all (suc j) (omega arith)))
both_solved n x e es (inl here) (inl rest) = inl (solves_cons n x e es here rest)

solved_or : (n : ℕ) (es : List Equation) (x : ℕ → Bool) → Solves n x es ⊎ (Solves n x es → ⊥)
solved_or n [] x = inl (λ j less. absurd (omega arith))
solved_or n (e ∷ es) x = both_solved n x e es (same_bit (sum_over n e.row x) e.bit) (solved_or n es x)

at_end : (n : ℕ) (es : List Equation) (x : ℕ → Bool) → Solves n x es ⊎ (Solves n x es → ⊥) → Extends n es n x ⊎ (Extends n es n x → ⊥)
at_end n es x (inl solves) = inl (x, (solves, λ d less. refl))
at_end n es x (inr never) = inr (λ some. never (solves_along n es some.0 x some.1.1 some.1.0))

less_extends : (n : ℕ) (es : List Equation) (c : ℕ) (x : ℕ → Bool) (bit : Bool) → Extends n es (suc c) (with_bit x c bit) → Extends n es c x
less_extends n es c x bit some = (some.0, (some.1.0, agree_less x some.0 c bit some.1.1))

more_extends : (n : ℕ) (es : List Equation) (c : ℕ) (x y : ℕ → Bool) (bit : Bool) → Solves n y es → Agree c y x → y c ≡ bit → Extends n es (suc c) (with_bit x c bit)
more_extends n es c x y bit solves agree here = (y, (solves, agree_more x y c bit agree here))

either_bit : (n : ℕ) (es : List Equation) (c : ℕ) (x y : ℕ → Bool) (b : Bool) → y c ≡ b → Solves n y es → Agree c y x → (Extends n es (suc c) (with_bit x c false) → ⊥) → (Extends n es (suc c) (with_bit x c true) → ⊥) → ⊥
either_bit n es c x y false here solves agree never neither = never (more_extends n es c x y false solves agree here)
either_bit n es c x y true here solves agree never neither = neither (more_extends n es c x y true solves agree here)

by_bits : (n : ℕ) (es : List Equation) (c : ℕ) (x : ℕ → Bool) → Extends n es (suc c) (with_bit x c false) ⊎ (Extends n es (suc c) (with_bit x c false) → ⊥) → Extends n es (suc c) (with_bit x c true) ⊎ (Extends n es (suc c) (with_bit x c true) → ⊥) →
    Extends n es c x ⊎ (Extends n es c x → ⊥)
by_bits n es c x (inl some) other = inl (less_extends n es c x false some)
by_bits n es c x (inr never) (inl some) = inl (less_extends n es c x true some)
by_bits n es c x (inr never) (inr none) = inr (λ some. either_bit n es c x some.0 (some.0 c) refl some.1.0 some.1.1 never none)

-- whether some solution agrees is decided by trying all bits from the column on
extends_or : (n : ℕ) (es : List Equation) (k c : ℕ) (x : ℕ → Bool) → c + k ≡ n → Extends n es c x ⊎ (Extends n es c x → ⊥)
extends_or n es zero c x all =
    let same : n ≡ c = omega arith in
    subst (λ (m : ℕ). Extends n es m x ⊎ (Extends n es m x → ⊥)) same (at_end n es x (solved_or n es x))
extends_or n es (suc k) c x all = by_bits n es c x (extends_or n es k (suc c) (with_bit x c false) (omega arith)) (extends_or n es k (suc c) (with_bit x c true) (omega arith))

-- ---- the choice

-- some solution agrees with the table before the column, and has this bit there
abbrev Can : ℕ → List Equation → (ℕ → Bool) → ℕ → Bool → Type 0
Can n es t d bit = (y : ℕ → Bool) × (Solves n y es × Agree d y t × (y d ≡ bit))

-- a solution that agrees with the table before the column, and is chosen from there on
record Choice (n : ℕ) (es : List Equation) (fill : List Bool) (c : ℕ) (x : ℕ → Bool) : Type 0 where
  table : ℕ → Bool
  agree : Agree c table x
  solves : Solves n table es
  met : (d : ℕ) → c ≤ d → d < n → Can n es table d (bit_at fill d) → table d ≡ bit_at fill d
  turned : (d : ℕ) → c ≤ d → d < n → (Can n es table d (bit_at fill d) → ⊥) → table d ≡ not (bit_at fill d)

met_from : (n : ℕ) (es : List Equation) (fill : List Bool) (c : ℕ) (t : ℕ → Bool) → (Can n es t c (bit_at fill c) → t c ≡ bit_at fill c) →
    ((d : ℕ) → suc c ≤ d → d < n → Can n es t d (bit_at fill d) → t d ≡ bit_at fill d) → (d : ℕ) → (c ≡ d) ⊎ (suc c ≤ d) → d < n → Can n es t d (bit_at fill d) → t d ≡ bit_at fill d
met_from n es fill c t here later d (inl same) less can = subst (λ (k : ℕ). Can n es t k (bit_at fill k) → t k ≡ bit_at fill k) same here can
met_from n es fill c t here later d (inr past) less can = later d past less can

turned_from : (n : ℕ) (es : List Equation) (fill : List Bool) (c : ℕ) (t : ℕ → Bool) → ((Can n es t c (bit_at fill c) → ⊥) → t c ≡ not (bit_at fill c)) →
    ((d : ℕ) → suc c ≤ d → d < n → (Can n es t d (bit_at fill d) → ⊥) → t d ≡ not (bit_at fill d)) → (d : ℕ) → (c ≡ d) ⊎ (suc c ≤ d) → d < n → (Can n es t d (bit_at fill d) → ⊥) → t d ≡ not (bit_at fill d)
turned_from n es fill c t here later d (inl same) less none = subst (λ (k : ℕ). (Can n es t k (bit_at fill k) → ⊥) → t k ≡ not (bit_at fill k)) same here none
turned_from n es fill c t here later d (inr past) less none = later d past less none

-- the fill bit can be taken
taken : (n : ℕ) (es : List Equation) (fill : List Bool) (c : ℕ) (x : ℕ → Bool) → Choice n es fill (suc c) (with_bit x c (bit_at fill c)) → Choice n es fill c x
taken n es fill c x r =
    let here : r.table c ≡ bit_at fill c = r.agree c (omega arith) ∙ with_here x c (bit_at fill c) in record {
      table = r.table;
      agree = agree_less x r.table c (bit_at fill c) r.agree;
      solves = r.solves;
      met = λ d past less can. met_from n es fill c r.table (λ it. here) r.met d (here_or_later c d past) less can;
      turned = λ d past less none. turned_from n es fill c r.table (λ never. absurd (never (r.table, (r.solves, (λ e before. refl), here)))) r.turned d (here_or_later c d past) less none;
    }

-- and it cannot
left : (n : ℕ) (es : List Equation) (fill : List Bool) (c : ℕ) (x : ℕ → Bool) → (Extends n es (suc c) (with_bit x c (bit_at fill c)) → ⊥) → Choice n es fill (suc c) (with_bit x c (not (bit_at fill c))) → Choice n es fill c x
left n es fill c x never r =
    let here : r.table c ≡ not (bit_at fill c) = r.agree c (omega arith) ∙ with_here x c (not (bit_at fill c)) in
    let agree : Agree c r.table x = agree_less x r.table c (not (bit_at fill c)) r.agree in record {
      table = r.table;
      agree = agree;
      solves = r.solves;
      met = λ d past less can. met_from n es fill c r.table (λ it. absurd (never (more_extends n es c x it.0 (bit_at fill c) it.1.0 (λ e before. it.1.1 e before ∙ agree e before) it.1.2))) r.met d (here_or_later c d past) less can;
      turned = λ d past less none. turned_from n es fill c r.table (λ it. here) r.turned d (here_or_later c d past) less none;
    }

chosen_from : (n : ℕ) (es : List Equation) (fill : List Bool) (k c : ℕ) (x : ℕ → Bool) → c + k ≡ n → Extends n es c x → Choice n es fill c x
chosen_from n es fill zero c x all some = record {
  table = some.0;
  agree = some.1.1;
  solves = some.1.0;
  met = λ d past less can. absurd (omega arith);
  turned = λ d past less none. absurd (omega arith);
}
chosen_from n es fill (suc k) c x all some =
    let bit : Bool = bit_at fill c in
    elim (extends_or n es k (suc c) (with_bit x c bit) (omega arith)) [
      | inl can ↦ taken n es fill c x (chosen_from n es fill k (suc c) (with_bit x c bit) (omega arith) can)
      | inr never ↦ (
          let other : some.0 c ≡ not bit = other_of (some.0 c) bit (λ same. never (more_extends n es c x some.0 bit some.1.0 some.1.1 same)) in
          left n es fill c x never (chosen_from n es fill k (suc c) (with_bit x c (not bit)) (omega arith) (more_extends n es c x some.0 (not bit) some.1.0 some.1.1 other)))
    ]

-- ---- as a list

-- so many bits of a table, from a column on
listed : (k c : ℕ) → (ℕ → Bool) → List Bool
listed zero c t = []
listed (suc k) c t = t c ∷ listed k (suc c) t

listed_length : (k c : ℕ) (t : ℕ → Bool) → length (listed k c t) ≡ k
unfolding listed
listed_length zero c t = refl
listed_length (suc k) c t = ap suc (listed_length k (suc c) t)

listed_at : (k c : ℕ) (t : ℕ → Bool) (j d : ℕ) → j < k → d ≡ c + j → bit_at (listed k c t) j ≡ t d
unfolding listed
listed_at zero c t j d less at = absurd (omega arith)
listed_at (suc k) c t zero d less at = ap t (let e : c ≡ d = omega arith in e)
listed_at (suc k) c t (suc j) d less at = listed_at k (suc c) t j d (omega arith) (omega arith)

-- bits that the fill chooses, which solve the equations
pub record Chosen (n : ℕ) (es : List Equation) (fill : List Bool) : Type 0 where
  pub bits : List Bool
  pub is : IsChosen n es fill bits
  pub solves : Solves n (bit_at bits) es

pub some_choice : (n : ℕ) (es : List Equation) (fill : List Bool) → IsSolvable n es → Chosen n es fill
some_choice n es fill some =
    let r : Choice n es fill zero some.0 = chosen_from n es fill n zero some.0 (omega arith) (some.0, (some.1, λ d less. absurd (omega arith))) in
    let bits : List Bool = listed n zero r.table in
    let at : (d : ℕ) → d < n → bit_at bits d ≡ r.table d = λ d less. listed_at n zero r.table d d less (omega arith) in record {
      bits = bits;
      is = record {
        size = listed_length n zero r.table;
        met = λ c less can. at c less ∙ r.met c (omega arith) less (can.0, (can.1.0, (λ d before. can.1.1 d before ∙ at d (omega arith)), can.1.2));
        turned = λ c less none. at c less ∙ r.turned c (omega arith) less (λ can. none (can.0, (can.1.0, (λ d before. can.1.1 d before ∙ sym (at d (omega arith))), can.1.2)));
      };
      solves = solves_along n es r.table (bit_at bits) (λ d less. sym (at d less)) r.solves;
    }
