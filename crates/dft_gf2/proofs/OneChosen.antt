-- The chosen bits are one list: column by column, a bit that can be taken after the same bits is the same.
use Rattle.std.proofs.Common.{ℕ, zero, suc, Bool, true, false, List, ◌≡◌, ◌<◌, ◌≤◌, sym, ap, arith, ◌∙◌, ◌⊎◌, inl, inr}
use Rattle.std.specs.Prelude.{not}
use Rattle.std.proofs.lemmas.Bool.{cases_lt}
use Rattle.std.proofs.lemmas.List.{ext_get_or}
use Rattle.dft_base.specs.Solutions.{bit_at, Equation, CanTake, IsChosen}
use Rattle.dft_base.proofs.BitLemmas.{same_or_not}
use Rattle.dft_gf2.specs.Laws.{ChosenIsOne}

not_itself : (a b : Bool) → a ≡ b → a ≡ not b → ⊥
not_itself true true same other = absurd cc
not_itself true false same other = absurd cc
not_itself false true same other = absurd cc
not_itself false false same other = absurd cc

can_same : (n : ℕ) (es : List Equation) (bits others : List Bool) (c : ℕ) (bit : Bool) → ((d : ℕ) → d < c → bit_at bits d ≡ bit_at others d) → CanTake n es bits c bit → CanTake n es others c bit
can_same n es bits others c bit agree can = (can.0, (can.1.0, (λ d less. can.1.1 d less ∙ agree d less), can.1.2))

-- one takes the fill bit, and the other does not
never_apart : (n : ℕ) (es : List Equation) (fill bits others : List Bool) (c : ℕ) → c < n → IsChosen n es fill bits → IsChosen n es fill others →
    ((d : ℕ) → d < c → bit_at bits d ≡ bit_at others d) → bit_at bits c ≡ bit_at fill c → bit_at others c ≡ not (bit_at fill c) → ⊥
never_apart n es fill bits others c less one other agree takes turns =
    not_itself (bit_at bits c) (bit_at fill c) takes
    (one.turned c less (λ can. not_itself (bit_at others c) (bit_at fill c) (other.met c less (can_same n es bits others c (bit_at fill c) agree can)) turns))

bit_case : (n : ℕ) (es : List Equation) (fill bits others : List Bool) (c : ℕ) → c < n → IsChosen n es fill bits → IsChosen n es fill others → ((d : ℕ) → d < c → bit_at bits d ≡ bit_at others d) →
    (bit_at bits c ≡ bit_at fill c) ⊎ (bit_at bits c ≡ not (bit_at fill c)) → (bit_at others c ≡ bit_at fill c) ⊎ (bit_at others c ≡ not (bit_at fill c)) → bit_at bits c ≡ bit_at others c
bit_case n es fill bits others c less one other agree (inl a) (inl b) = a ∙ sym b
bit_case n es fill bits others c less one other agree (inl a) (inr b) = absurd (never_apart n es fill bits others c less one other agree a b)
bit_case n es fill bits others c less one other agree (inr a) (inl b) = absurd (never_apart n es fill others bits c less other one (λ d under. sym (agree d under)) b a)
bit_case n es fill bits others c less one other agree (inr a) (inr b) = a ∙ sym b

bit_more : (bits others : List Bool) (k d : ℕ) → (d < k) ⊎ (k ≤ d) → d < suc k → (d < k → bit_at bits d ≡ bit_at others d) → bit_at bits k ≡ bit_at others k → bit_at bits d ≡ bit_at others d
bit_more bits others k d (inl under) less before here = before under
bit_more bits others k d (inr from) less before here = let same : d ≡ k = omega arith in ap (bit_at bits) same ∙ here ∙ ap (bit_at others) (sym same)

agree_to : (n : ℕ) (es : List Equation) (fill bits others : List Bool) → IsChosen n es fill bits → IsChosen n es fill others → (k : ℕ) → k ≤ n → (d : ℕ) → d < k → bit_at bits d ≡ bit_at others d
agree_to n es fill bits others one other zero fits d less = absurd (omega arith)
agree_to n es fill bits others one other (suc k) fits d less =
    bit_more bits others k d (cases_lt d k) less (agree_to n es fill bits others one other k (omega arith) d)
    (bit_case n es fill bits others k (omega arith) one other (agree_to n es fill bits others one other k (omega arith)) (same_or_not (bit_at bits k) (bit_at fill k)) (same_or_not (bit_at others k) (bit_at fill k)))

pub chosen_one : ChosenIsOne
chosen_one n es fill bits others one other =
    ext_get_or false bits others (one.size ∙ sym other.size) (λ k less. agree_to n es fill bits others one other n (omega arith) k (let size = one.size in omega arith))
