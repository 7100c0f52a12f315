-- The compared bits of a vector, one signal after another.
use Rattle.std.proofs.Common.{ℕ, suc, Bool, true, false, ◌≡◌, ◌<◌, ◌+◌, ◌⊎◌, inl, inr, List, [], ◌∷◌, length, drop, refl, ap, arith, ◌∙◌, Option, None, Some}
use Rattle.std.specs.Prelude.{if◌then◌else◌, ◌&&◌}
use Rattle.std.proofs.lemmas.Bool.{and_left}
use Rattle.dft_base.specs.declared.tri.Tri.{Tri}
use Rattle.dft_base.specs.declared.tri.Tri.TheVariants.{Zero, One, Unknown}
use Rattle.dft_lanes.specs.declared.wide.Wide.{Wide}
use Rattle.dft_evaluator.specs.Wides.{value_in, values_in, wide_at, IsWide}
use Rattle.dft_patterns.specs.declared.act.Act.{Act}
use Rattle.dft_patterns.specs.declared.act.Act.TheVariants.{Unset, Low, High, Pulse, ExpectLow, ExpectHigh, Ignore}
use Rattle.dft_replay.specs.declared.verdict.Unknowns.TheVariants.{Skip}
use Rattle.dft_replay.specs.declared.verdict.Verdict.{Verdict}
use Rattle.dft_replay.specs.declared.verdict.Verdict.TheVariants.{Mismatch}
use Rattle.dft_replay.specs.Rows.{Compared, compared_at, compared_from}
use Rattle.dft_replay.specs.Vectors.{printed}
use Rattle.dft_replay.specs.Verdicts.{bit_decides, bits_decide}
use Rattle.dft_grade.specs.declared.found.Grade.{Grade}
use Rattle.dft_grade.specs.declared.found.Grade.TheVariants.{Detected}
use Rattle.dft_fault_lanes.specs.Compares.{is_one, is_opposite, found_at, AreMarked, differs_in, AreCompared}

-- what one bit decides
opposite_decides : (v i : ℕ) (t : Tri) (bit : Bool) (rest : Option Verdict) → bit_decides Skip v i t bit rest ≡ (if is_opposite bit t then Some (Mismatch v i) else rest)
opposite_decides v i Zero true rest = refl
opposite_decides v i Zero false rest = refl
opposite_decides v i One true rest = refl
opposite_decides v i One false rest = refl
opposite_decides v i Unknown true rest = refl
opposite_decides v i Unknown false rest = refl

-- a signal that is not compared decides nothing
passed_over : (values : ℕ → Tri) (v i net : ℕ) (act : Act) (rest : List Compared) → printed act ≡ None → bits_decide Skip values v (compared_at i net act rest) ≡ bits_decide Skip values v rest
passed_over values v i net Unset rest none = refl
passed_over values v i net Low rest none = refl
passed_over values v i net High rest none = refl
passed_over values v i net Pulse rest none = refl
passed_over values v i net ExpectLow rest none = absurd (let f : ⊥ = cc in f)
passed_over values v i net ExpectHigh rest none = absurd (let f : ⊥ = cc in f)
passed_over values v i net Ignore rest none = refl

some_bit : (x y : Bool) → Some x ≡ Some y → x ≡ y
some_bit x y e = ap (λ (o : Option Bool). elim o [ Some z ↦ z | None ↦ x ]) e

decides_next : (values : ℕ → Tri) (v i net : ℕ) (act : Act) (bit : Bool) (rest : List Compared) → printed act ≡ Some bit →
    bits_decide Skip values v (compared_at i net act rest) ≡ (if is_opposite bit (values net) then Some (Mismatch v i) else bits_decide Skip values v rest)
decides_next values v i net Unset bit rest is = absurd (let f : ⊥ = cc in f)
decides_next values v i net Low bit rest is = absurd (let f : ⊥ = cc in f)
decides_next values v i net High bit rest is = absurd (let f : ⊥ = cc in f)
decides_next values v i net Pulse bit rest is = absurd (let f : ⊥ = cc in f)
decides_next values v i net ExpectLow bit rest is =
    opposite_decides v i (values net) false (bits_decide Skip values v rest) ∙ ap (λ b. if is_opposite b (values net) then Some (Mismatch v i) else bits_decide Skip values v rest) (some_bit false bit is)
decides_next values v i net ExpectHigh bit rest is =
    opposite_decides v i (values net) true (bits_decide Skip values v rest) ∙ ap (λ b. if is_opposite b (values net) then Some (Mismatch v i) else bits_decide Skip values v rest) (some_bit true bit is)
decides_next values v i net Ignore bit rest is = absurd (let f : ⊥ = cc in f)

-- ---- one signal after another

-- the bits from a signal on
abbrev pub bits_from : List ℕ → List Act → (signal : ℕ) → List Compared
bits_from nets acts i = compared_from i (drop i nets) (drop i acts)

-- in a lane that was live: either it is live yet, and the bits from the signal on decide what all do, or its grade is what they decide
abbrev pub IsSoFar : (values : ℕ → Tri) → (v : ℕ) → (all rest : List Compared) → (live : Bool) → (old new : Option Grade) → Type 0
IsSoFar values v all rest live old new =
    ((bits_decide Skip values v all ≡ bits_decide Skip values v rest) × ((live ≡ true) × (new ≡ old)))
    ⊎ ((signal : ℕ) × ((bits_decide Skip values v all ≡ Some (Mismatch v signal)) × ((live ≡ false) × (new ≡ Some (Detected v signal)))))

pub record SoFar (wides : List Wide) (v : ℕ) (nets : List ℕ) (acts : List Act) (live : Wide) (found : List (Option Grade)) (live_now : Wide) (found_now : List (Option Grade)) (i : ℕ) : Type 0 where
  pub wide : IsWide live_now (value_in live_now)
  pub size : length found_now ≡ 512
  pub lives : (lane : ℕ) → lane < 512 → is_one (value_in live lane) ≡ true →
      IsSoFar (values_in wides lane) v (compared_from 0 nets acts) (bits_from nets acts i) (is_one (value_in live_now lane)) (found_at found lane) (found_at found_now lane)
  pub rests : (lane : ℕ) → lane < 512 → is_one (value_in live lane) ≡ false → (is_one (value_in live_now lane) ≡ false) × (found_at found_now lane ≡ found_at found lane)

pub so_far_starts : (wides : List Wide) (v : ℕ) (nets : List ℕ) (acts : List Act) (live : Wide) (found : List (Option Grade)) → IsWide live (value_in live) → length found ≡ 512 → SoFar wides v nets acts live found live found 0
so_far_starts wides v nets acts live found wide size = record { wide = wide; size = size; lives = λ lane within h. inl (refl, (h, refl)); rests = λ lane within h. (h, refl) }

pub so_far_ends : (wides : List Wide) (v : ℕ) (nets : List ℕ) (acts : List Act) (live : Wide) (found : List (Option Grade)) (live_now : Wide) (found_now : List (Option Grade)) (i : ℕ) → drop i nets ≡ [] → SoFar wides v nets acts live found live_now found_now i →
    AreCompared wides v (compared_from 0 nets acts) live found live_now found_now
so_far_ends wides v nets acts live found live_now found_now i none s = record {
  lives = λ lane within h. elim (s.lives lane within h) [
    | inl so ↦ inl (so.0 ∙ ap (λ (l : List ℕ). bits_decide Skip (values_in wides lane) v (compared_from i l (drop i acts))) none, so.1)
    | inr found ↦ inr found
  ];
  rests = s.rests;
}

-- the bits from a signal on, where it is there
bits_next : (nets : List ℕ) (acts : List Act) (i net : ℕ) (act : Act) → drop i nets ≡ net ∷ drop (i + 1) nets → drop i acts ≡ act ∷ drop (i + 1) acts → bits_from nets acts i ≡ compared_at i net act (bits_from nets acts (i + 1))
bits_next nets acts i net act first second =
    (λ t. compared_from i (first t) (second t)) ∙ ap (λ (k : ℕ). compared_at i net act (compared_from k (drop (i + 1) nets) (drop (i + 1) acts))) (let e : suc i ≡ i + 1 = omega arith in e)

pub so_far_skips : (wides : List Wide) (v : ℕ) (nets : List ℕ) (acts : List Act) (live : Wide) (found : List (Option Grade)) (live_now : Wide) (found_now : List (Option Grade)) (i net : ℕ) (act : Act) →
    drop i nets ≡ net ∷ drop (i + 1) nets → drop i acts ≡ act ∷ drop (i + 1) acts → printed act ≡ None → SoFar wides v nets acts live found live_now found_now i → SoFar wides v nets acts live found live_now found_now (i + 1)
so_far_skips wides v nets acts live found live_now found_now i net act first second none s = record {
  wide = s.wide;
  size = s.size;
  lives = λ lane within h. elim (s.lives lane within h) [
    | inl so ↦ inl (so.0 ∙ ap (bits_decide Skip (values_in wides lane) v) (bits_next nets acts i net act first second) ∙ passed_over (values_in wides lane) v i net act (bits_from nets acts (i + 1)) none, so.1)
    | inr found ↦ inr found
  ];
  rests = s.rests;
}

-- one lane, where the bit at a signal is compared
next_lane : (values : ℕ → Tri) (v i : ℕ) (all rest : List Compared) (before after : Tri) (hit opposite : Bool) (old found found_now : Option Grade) (decided : Option Verdict) → hit ≡ is_one before && opposite →
    bits_decide Skip values v all ≡ (if opposite then Some (Mismatch v i) else bits_decide Skip values v rest) → is_one before ≡ true → found ≡ old → after ≡ (if hit then Zero else before) → found_now ≡ (if hit then Some (Detected v i) else found) →
    IsSoFar values v all rest (is_one after) old found_now
next_lane values v i all rest before after true true old found found_now decided is tells live same lives finds = inr (i, (tells, (ap is_one lives, finds)))
next_lane values v i all rest before after false false old found found_now decided is tells live same lives finds = inl (tells, (ap is_one lives ∙ live, finds ∙ same))
next_lane values v i all rest before after true false old found found_now decided is tells live same lives finds = absurd (let q : true ≡ false = is ∙ ap (λ b. b && false) live in let f : ⊥ = cc in f)
next_lane values v i all rest before after false true old found found_now decided is tells live same lives finds = absurd (let q : false ≡ true = is ∙ ap (λ b. b && true) live in let f : ⊥ = cc in f)

pub so_far_more : (wides : List Wide) (v : ℕ) (nets : List ℕ) (acts : List Act) (live : Wide) (found : List (Option Grade)) (live_now : Wide) (found_now : List (Option Grade)) (new : Wide) (found_new : List (Option Grade)) (i net : ℕ) (act : Act) (bit : Bool) →
    drop i nets ≡ net ∷ drop (i + 1) nets → drop i acts ≡ act ∷ drop (i + 1) acts → printed act ≡ Some bit → IsWide new (value_in new) → length found_new ≡ length found_now →
    AreMarked (Detected v i) (differs_in bit (wide_at wides net) live_now) live_now found_now new found_new → SoFar wides v nets acts live found live_now found_now i → SoFar wides v nets acts live found new found_new (i + 1)
so_far_more wides v nets acts live found live_now found_now new found_new i net act bit first second is wide size marked s =
    let off : (lane : ℕ) → lane < 512 → is_one (value_in live_now lane) ≡ false → (is_one (value_in new lane) ≡ false) × (found_at found_new lane ≡ found_at found_now lane) = λ lane within h.
    (let none = and_left (is_one (value_in live_now lane)) (is_opposite bit (values_in wides lane net)) h in (
      ap is_one (marked.lives lane within ∙ ap (λ b. if b then Zero else value_in live_now lane) none) ∙ h,
      marked.finds lane within ∙ ap (λ b. if b then Some (Detected v i) else found_at found_now lane) none,
    )) in
    record {
      wide = wide;
      size = size ∙ s.size;
      lives = λ lane within h. elim (s.lives lane within h) [
        | inl so ↦ next_lane (values_in wides lane) v i (compared_from 0 nets acts) (bits_from nets acts (i + 1)) (value_in live_now lane) (value_in new lane) (differs_in bit (wide_at wides net) live_now lane) (is_opposite bit (values_in wides lane net))
            (found_at found lane) (found_at found_now lane) (found_at found_new lane) None refl
            (so.0 ∙ ap (bits_decide Skip (values_in wides lane) v) (bits_next nets acts i net act first second) ∙ decides_next (values_in wides lane) v i net act bit (bits_from nets acts (i + 1)) is) so.1.0 so.1.1
            (marked.lives lane within) (marked.finds lane within)
        | inr decided ↦ (let o = off lane within decided.1.1.0 in inr (decided.0, (decided.1.0, (o.0, o.1 ∙ decided.1.1.1))))
      ];
      rests = λ lane within h. (let was = s.rests lane within h in let o = off lane within was.0 in (o.0, o.1 ∙ was.1));
    }
