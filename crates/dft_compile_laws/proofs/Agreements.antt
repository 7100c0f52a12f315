-- Where all compared bits of all vectors agree with their rounds, the verdict is Pass.
use Rattle.std.proofs.Common.{ℕ, zero, suc, ◌+◌, ◌≡◌, List, [], ◌∷◌, ◌++◌, length, map, Option, refl, sym, ap, subst, arith, ◌∙◌}
use Rattle.std.specs.List.{range_with_len}
use Rattle.dft_base.specs.declared.tri.Tri.{Tri}
use Rattle.dft_behavior.specs.Logic.{Logic}
use Rattle.dft_abstract.specs.Cycle.{Round, after_round}
use Rattle.dft_runs.specs.Passes.{AreRounds}
use Rattle.dft_patterns.specs.declared.act.Act.{Act}
use Rattle.dft_patterns.specs.declared.act.Act.TheVariants.{Unset, Low, High, Pulse, ExpectLow, ExpectHigh, Ignore}
use Rattle.dft_replay.specs.declared.verdict.Verdict.{Verdict}
use Rattle.dft_replay.specs.declared.verdict.Verdict.TheVariants.{Pass}
use Rattle.dft_replay.specs.Rows.{Compared, Row, compared_at, compared_from, row_of, rows_from}
use Rattle.dft_replay.specs.Verdicts.{HasVerdictFrom, Stops}
use Rattle.dft_compile_laws.specs.Agreeing.{Agrees}
use Rattle.dft_compile_laws.proofs.Deciding.{agreed_goes_on}
use Rattle.dft_compile_laws.proofs.Muting.{vectors_by}
use Rattle.std.specs.Prelude.{slice_get, Some}

-- ---- vectors and rounds

-- there is a round for each vector, and with its strobe all compared bits agree
abbrev pub AllAgree : (nets : List ℕ) → List (List Act) → List Round → Type 0
AllAgree nets [] [] = Unit {0}
AllAgree nets [] (r ∷ rs) = ⊥
AllAgree nets (acts ∷ vectors) [] = ⊥
AllAgree nets (acts ∷ vectors) (r ∷ rs) = Agrees r.strobe nets acts × AllAgree nets vectors rs

pub agree_append : (nets : List ℕ) (a b : List (List Act)) (us vs : List Round) → AllAgree nets a us → AllAgree nets b vs → AllAgree nets (a ++ b) (us ++ vs)
agree_append nets [] b [] vs h k = k
agree_append nets [] b (u ∷ us) vs h k = absurd h
agree_append nets (acts ∷ a) b [] vs h k = absurd h
agree_append nets (acts ∷ a) b (u ∷ us) vs h k = (h.0, agree_append nets a b us vs h.1 k)

-- vectors that are numbered from a number on
pub agree_from : (nets : List ℕ) (f : ℕ → List Act) (from count : ℕ) (rs : List Round) → length rs ≡ count → ((t : ℕ) (r : Round) → slice_get rs t ≡ Some r → Agrees r.strobe nets (f (from + t))) →
    AllAgree nets (map f (range_with_len from count)) rs
agree_from nets f from zero [] e h = tt
agree_from nets f from zero (r ∷ rs) e h = absurd (omega (arith, e))
agree_from nets f from (suc count) [] e h = absurd (omega (arith, e))
agree_from nets f from (suc count) (r ∷ rs) e h =
    let here : from + 0 ≡ from = omega arith in (
      subst (λ (k : ℕ). Agrees r.strobe nets (f k)) here (h 0 r refl),
      agree_from nets f (from + 1) count rs (omega (arith, e)) (λ t q at. let there : from + suc t ≡ from + 1 + t = omega arith in subst (λ (k : ℕ). Agrees q.strobe nets (f k)) there (h (suc t) q at)),
    )

-- ---- how many bits are compared

-- of an act
abbrev pub compares : Act → ℕ
compares ExpectLow = 1
compares ExpectHigh = 1
compares Unset = 0
compares Low = 0
compares High = 0
compares Pulse = 0
compares Ignore = 0

-- of the acts at some nets
abbrev pub compared_in : (nets : List ℕ) → List Act → ℕ
compared_in [] acts = 0
compared_in (net ∷ nets) [] = 0
compared_in (net ∷ nets) (a ∷ acts) = compares a + compared_in nets acts

abbrev pub all_compared_in : (nets : List ℕ) → List (List Act) → ℕ
all_compared_in nets [] = 0
all_compared_in nets (acts ∷ vectors) = compared_in nets acts + all_compared_in nets vectors

one_more : (i net : ℕ) (a : Act) (rest : List Compared) → length (compared_at i net a rest) ≡ compares a + length rest
one_more i net ExpectLow rest = omega arith
one_more i net ExpectHigh rest = omega arith
one_more i net Unset rest = omega arith
one_more i net Low rest = omega arith
one_more i net High rest = omega arith
one_more i net Pulse rest = omega arith
one_more i net Ignore rest = omega arith

compared_length : (i : ℕ) (nets : List ℕ) (acts : List Act) → length (compared_from i nets acts) ≡ compared_in nets acts
compared_length i [] acts = refl
compared_length i (net ∷ nets) [] = refl
compared_length i (net ∷ nets) (a ∷ acts) = one_more i net a (compared_from (suc i) nets acts) ∙ ap (λ (k : ℕ). compares a + k) (compared_length (suc i) nets acts)

-- ---- the verdict

pub passes_from : (l : Logic) (nets : List ℕ) (old before : ℕ → Tri) (v count : ℕ) (vectors : List (List Act)) (rs : List Round) → AreRounds l old (vectors_by (rows_from nets before vectors)) rs → AllAgree nets vectors rs →
    HasVerdictFrom l old v count (rows_from nets before vectors) (Pass (count + all_compared_in nets vectors))
passes_from l nets old before v count [] rs h agree = let none : count + 0 ≡ count = omega arith in ap Pass none
passes_from l nets old before v count (acts ∷ vectors) [] h agree = absurd h
passes_from l nets old before v count (acts ∷ vectors) (r ∷ rs) h agree =
    let x : Row = row_of nets before acts in
    let next : ℕ → Tri = after_round l x.vector old r in
    let rest : ℕ = all_compared_in nets vectors in
    let here : length x.compared ≡ compared_in nets acts = compared_length 0 nets acts in
    let total : count + length x.compared + rest ≡ count + (compared_in nets acts + rest) = omega (arith, here) in
    let later : HasVerdictFrom l next (suc v) (count + length x.compared) (rows_from nets x.vector.ports vectors) (Pass (count + length x.compared + rest)) =
    passes_from l nets next x.vector.ports (suc v) (count + length x.compared) vectors rs h.1 agree.1 in
    let moved : HasVerdictFrom l next (suc v) (count + length x.compared) (rows_from nets x.vector.ports vectors) (Pass (count + (compared_in nets acts + rest))) =
    subst (λ (m : ℕ). HasVerdictFrom l next (suc v) (count + length x.compared) (rows_from nets x.vector.ports vectors) (Pass m)) total later in (
      r,
      (
        h.0,
        subst (λ (d : Option Verdict). Stops d (Pass (count + (compared_in nets acts + rest))) (HasVerdictFrom l next (suc v) (count + length x.compared) (rows_from nets x.vector.ports vectors) (Pass (count + (compared_in nets acts + rest)))))
            (sym (agreed_goes_on r.strobe v 0 nets acts agree.0)) moved,
      ),
    )
