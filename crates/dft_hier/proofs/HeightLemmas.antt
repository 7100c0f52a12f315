-- Where no module stands below itself, none stands deeper than there are modules.
use Rattle.std.proofs.Common.{ℕ, zero, suc, ◌+◌, ◌<◌, ◌≤◌, ◌≡◌, ◌⊎◌, inl, inr, List, [], ◌∷◌, length, get_or, sym, subst, arith}
use Rattle.std.proofs.lemmas.Bool.{cases_eq, cases_lt}
use Rattle.indexmap.proofs.IndexTableLemmas.Probe.{pigeonhole}
use Rattle.dft_hier.specs.Reach.{Graph, AreWithin, StandsIn, children_at, Leads, Child, NoCircle}
use Rattle.dft_hier.proofs.ReachLemmas.{children_below, leads_on}

-- so many modules stand below each other at most, this one among them
pub data IsTall (g : Graph) : ℕ → ℕ → Type 0 where
  Grows : {depth number : ℕ} → ((child : ℕ) → StandsIn (children_at g number) child → IsTall g depth child) → IsTall g (suc depth) number

-- a list of instances leads down from the last of these to the module
abbrev IsTrail : Graph → (number : ℕ) → (above : List ℕ) → Type 0
IsTrail g number [] = Unit {0}
IsTrail g number (x ∷ above) = StandsIn (children_at g x) number × IsTrail g x above

trail_leads : (g : Graph) (number : ℕ) (above : List ℕ) (j : ℕ) → IsTrail g number above → j < length above → Leads g (get_or above j 0) number
trail_leads g number [] j trail less = absurd (omega (arith, less))
trail_leads g number (x ∷ above) zero trail less = Child trail.0
trail_leads g number (x ∷ above) (suc j) trail less = leads_on g (get_or above j 0) x number (trail_leads g x above j trail.1 (omega (arith, less))) (Child trail.0)

-- no module comes twice on a trail
trail_apart : (g : Graph) (number : ℕ) (above : List ℕ) (i j : ℕ) → NoCircle g → IsTrail g number above → i < j → j < suc (length above) → get_or (number ∷ above) i 0 ≡ get_or (number ∷ above) j 0 → ⊥
trail_apart g number above i zero none trail less within same = absurd (omega (arith, less))
trail_apart g number above zero (suc j) none trail less within same =
    none number (subst (λ (k : ℕ). Leads g k number) (sym same) (trail_leads g number above j trail (omega (arith, within))))
trail_apart g number [] (suc i) (suc j) none trail less within same = absurd (omega (arith, within))
trail_apart g number (x ∷ above) (suc i) (suc j) none trail less within same = trail_apart g x above i j none trail.1 (omega (arith, less)) (omega (arith, within)) same

trail_live : (g : Graph) (count number : ℕ) (above : List ℕ) (i : ℕ) → AreWithin (length g) g → number < length g → ((k : ℕ) → k < length above → get_or above k 0 < length g) → i < suc (length above) → get_or (number ∷ above) i 0 < length g
trail_live g count number above zero within live all less = live
trail_live g count number above (suc i) within live all less = all i (omega (arith, less))

-- a trail is no longer than there are modules
short : (g : Graph) (number : ℕ) (above : List ℕ) → NoCircle g → IsTrail g number above → AreWithin (length g) g → number < length g → ((k : ℕ) → k < length above → get_or above k 0 < length g) → suc (length above) ≤ length g
short g number above none trail within live all =
    pigeonhole (suc (length above)) (length g) (λ i. get_or (number ∷ above) i 0) (λ i less. trail_live g 0 number above i within live all less) (λ i j a b same. apart i j a b same (cases_eq i j))
  where
    apart : (i j : ℕ) → i < suc (length above) → j < suc (length above) → get_or (number ∷ above) i 0 ≡ get_or (number ∷ above) j 0 → (i ≡ j) ⊎ (i ≡ j → ⊥) → i ≡ j
    apart i j a b same h = elim h [
      | inl e ↦ e
      | inr ne ↦ elim (cases_lt i j) [
        | inl less ↦ absurd (trail_apart g number above i j none trail less b same)
        | inr more ↦ absurd (trail_apart g number above j i none trail (omega (arith, more, ne)) a (sym same))
      ]
    ]

tall_below : (g : Graph) (depth number : ℕ) (above : List ℕ) → NoCircle g → AreWithin (length g) g → IsTrail g number above → number < length g → ((k : ℕ) → k < length above → get_or above k 0 < length g) → length above + depth ≡ length g → IsTall g depth number
tall_below g zero number above none within trail live all size = absurd (let s = short g number above none trail within live all in omega arith)
tall_below g (suc depth) number above none within trail live all size = Grows (λ child below.
    tall_below g depth child (number ∷ above) none within (below, trail) (children_below g number within child below)
    (λ k less. trail_live g 0 number above k within live all less)
    (omega (arith, size)))

pub all_tall : (g : Graph) (number : ℕ) → NoCircle g → AreWithin (length g) g → number < length g → IsTall g (length g) number
all_tall g number none within live = tall_below g (length g) number [] none within tt live (λ k less. absurd (omega (arith, less))) (omega arith)
