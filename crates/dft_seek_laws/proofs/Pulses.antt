-- Where one clock pulses, it has one edge.
use Rattle.std.proofs.Common.{ℕ, suc, ◌+◌, ◌≡◌, ◌≤◌, ◌==◌, ◌∙◌, Bool, true, false, List, [], ◌∷◌, refl, sym, ap, subst, arith}
use Rattle.std.specs.Prelude.{if◌then◌else◌}
use Rattle.std.proofs.lemmas.Bool.{eq-eqb, eqb-true}
use Rattle.dft_behavior.specs.Runs.{Edge, IsOrder, times}

counted : (a b : Bool) → (if a then 1 else 0) + 0 ≡ (if b then 1 else 0) → a ≡ b
counted true true is = refl
counted false false is = refl
counted true false is = absurd (omega (arith, is))
counted false true is = absurd (omega (arith, is))

some_times : (b : Bool) (rest : ℕ) (c : Bool) → b ≡ true → (if b then 1 else 0) + rest ≡ (if c then 1 else 0) → c ≡ true
some_times true rest true is count = refl
some_times true rest false is count = absurd (omega (arith, count))
some_times false rest c is count = absurd (let f : ⊥ = cc in f)

more_times : (a b : Bool) (rest : ℕ) (c : Bool) → b ≡ true → (if a then 1 else 0) + ((if b then 1 else 0) + rest) ≡ (if c then 1 else 0) → c ≡ true
more_times a true rest true is count = refl
more_times true true rest false is count = absurd (omega (arith, count))
more_times false true rest false is count = absurd (omega (arith, count))
more_times a false rest c is count = absurd (let f : ⊥ = cc in f)

twice : (a b : Bool) (rest : ℕ) (c : Bool) → a ≡ true → b ≡ true → (if a then 1 else 0) + ((if b then 1 else 0) + rest) ≡ (if c then 1 else 0) → ⊥
twice true true rest true is also count = omega (arith, count)
twice true true rest false is also count = omega (arith, count)
twice true false rest c is also count = let f : ⊥ = cc in f
twice false b rest c is also count = let f : ⊥ = cc in f

-- the edge of the clock that pulses
pub record IsOneEdge (pulsed : ℕ → Bool) (es : List Edge) : Type 0 where
  pub edge : Edge
  pub alone : es ≡ edge ∷ []
  pub own : (k : ℕ) → edge.domains k ≡ pulsed k

pub one_edge : (pulsed : ℕ → Bool) (d : ℕ) (es : List Edge) → ((k : ℕ) → pulsed k ≡ (d == k)) → IsOrder pulsed es → IsOneEdge pulsed es
one_edge pulsed d [] pulses is =
    let on : pulsed d ≡ true = pulses d ∙ eq-eqb d d refl in
    let none : 0 ≡ 1 = is.once d ∙ ap (λ (b : Bool). if b then 1 else 0) on in
    absurd (omega (arith, none))
one_edge pulsed d (e ∷ []) pulses is = record { edge = e; alone = refl; own = λ k. counted (e.domains k) (pulsed k) (is.once k) }
one_edge pulsed d (e ∷ f ∷ es) pulses is =
    let k : ℕ = is.some.0.0 in
    let j : ℕ = is.some.1.0.0 in
    let first : d ≡ k = eqb-true d k (sym (pulses k) ∙ some_times (e.domains k) (times k (f ∷ es)) (pulsed k) is.some.0.1 (is.once k)) in
    let second : d ≡ j = eqb-true d j (sym (pulses j) ∙ more_times (e.domains j) (f.domains j) (times j es) (pulsed j) is.some.1.0.1 (is.once j)) in
    absurd (twice (e.domains d) (f.domains d) (times d es) (pulsed d) (ap e.domains first ∙ is.some.0.1) (ap f.domains second ∙ is.some.1.0.1) (is.once d))
