-- Modules that stand below each other, by their numbers.
use Rattle.std.proofs.Common.{ℕ, zero, suc, ◌+◌, ◌<◌, ◌≤◌, ◌≡◌, ◌⊎◌, inl, inr, List, [], ◌∷◌, ◌++◌, length, take, get_or, Option, None, Some, slice_get, refl, sym, ap, subst, arith, ◌∙◌}
use Rattle.std.proofs.lemmas.List.Elements.{All-get_or}
use Rattle.std.proofs.lemmas.Option.{slice_get_within, get_or_from_slice_get}
use Rattle.std.proofs.lemmas.Bool.{cases_lt}
use Rattle.std.specs.List.{cons_option}
use Rattle.dft_base.proofs.ListLemmas.{get_left, get_right, get_push}
use Rattle.dft_hier.specs.Reach.{Graph, AreBelow, AreWithin, StandsIn, children_at, Leads, Child, Deeper, NoCircle, HasCircle, IsFirstOnCircle, IsOrder, NeverFalls, HasOwn}

-- ---- what stands in a list

pub stands_left : (xs ys : List ℕ) (k : ℕ) → StandsIn xs k → StandsIn (xs ++ ys) k
stands_left xs ys k h = record { place = h.place; at = get_left xs ys h.place k h.at }

pub stands_last : (xs : List ℕ) (k : ℕ) → StandsIn (xs ++ k ∷ []) k
stands_last xs k = record { place = length xs + 0; at = get_right xs (k ∷ []) 0 k refl }

pub stands_first : (k : ℕ) (xs : List ℕ) → StandsIn (k ∷ xs) k
stands_first k xs = record { place = 0; at = refl }

pub stands_more : (x : ℕ) (xs : List ℕ) (k : ℕ) → StandsIn xs k → StandsIn (x ∷ xs) k
stands_more x xs k h = record { place = suc h.place; at = h.at }

pub stands_behind : (o : Option ℕ) (xs : List ℕ) (k : ℕ) → StandsIn xs k → StandsIn (cons_option o xs) k
stands_behind None xs k h = h
stands_behind (Some x) xs k h = stands_more x xs k h

stands_cases_at : (x : ℕ) (xs : List ℕ) (k place : ℕ) → slice_get (x ∷ xs) place ≡ Some k → (x ≡ k) ⊎ StandsIn xs k
stands_cases_at x xs k zero at = inl (let e : x ≡ k = cc in e)
stands_cases_at x xs k (suc place) at = inr (record { place = place; at = at })

pub stands_cases : (x : ℕ) (xs : List ℕ) (k : ℕ) → StandsIn (x ∷ xs) k → (x ≡ k) ⊎ StandsIn xs k
stands_cases x xs k h = stands_cases_at x xs k h.place h.at

none_at : (place k : ℕ) → slice_get [] place ≡ Some k → ⊥
none_at place k h = cc

pub stands_none : (k : ℕ) → StandsIn [] k → ⊥
stands_none k h = none_at h.place k h.at

pub stands_push : (xs : List ℕ) (x k : ℕ) → StandsIn (xs ++ x ∷ []) k → StandsIn xs k ⊎ (x ≡ k)
stands_push xs x k h = elim (get_push xs x k h.place h.at) [ inl old ↦ inl (record { place = h.place; at = old }) | inr new ↦ inr new.1 ]

-- each of a list is below a number
pub below_at : (count : ℕ) (xs : List ℕ) (k : ℕ) → AreBelow count xs → StandsIn xs k → k < count
below_at count xs k below h =
    let P : ℕ → Type 0 = λ (n : ℕ). n < count in
    subst P (get_or_from_slice_get xs h.place k 0 h.at) (All-get_or P xs h.place 0 (slice_get_within xs h.place k h.at) below)

-- ---- graphs

pub children_below : (g : Graph) (number : ℕ) → AreWithin (length g) g → (child : ℕ) → StandsIn (children_at g number) child → child < length g
children_below g number within child h = elim (cases_lt number (length g)) [
  | inl less ↦ below_at (length g) (children_at g number) child (All-get_or (λ (numbers : List ℕ). AreBelow (length g) numbers) g number [] less within) h
  | inr past ↦ absurd (stands_none child (subst (λ (xs : List ℕ). StandsIn xs child) (past_end g number past) h))
]
  where
    past_end : (g : Graph) (number : ℕ) → length g ≤ number → children_at g number ≡ []
    past_end [] number past = refl
    past_end (x ∷ g) zero past = absurd (omega (arith, past))
    past_end (x ∷ g) (suc number) past = past_end g number (omega (arith, past))

-- what has children is there
pub above_live : (g : Graph) (number child : ℕ) → StandsIn (children_at g number) child → number < length g
above_live [] number child h = absurd (stands_none child h)
above_live (x ∷ g) zero child h = omega arith
above_live (x ∷ g) (suc number) child h = let r = above_live g number child h in omega arith

pub leads_live : (g : Graph) (above below : ℕ) → Leads g above below → above < length g
leads_live g above below (Child h) = above_live g above _ h
leads_live g above below (Deeper h more) = above_live g above _ h

-- one list of instances behind another
pub leads_on : (g : Graph) (above between below : ℕ) → Leads g above between → Leads g between below → Leads g above below
leads_on g above between below (Child h) more = Deeper h more
leads_on g above between below (Deeper h first) more = Deeper h (leads_on g _ between below first more)

-- ---- numbers that never fall

pub leads_rise : (g : Graph) (numbers : List ℕ) → NeverFalls g numbers → (above below : ℕ) → Leads g above below → get_or numbers above 0 ≤ get_or numbers below 0
leads_rise g numbers never above below (Child h) = never above below h
leads_rise g numbers never above below (Deeper {between = between} h more) = let a = never above between h in let b = leads_rise g numbers never between below more in omega arith

-- a module without instances of its own number is not below itself
pub apart : (g : Graph) (numbers : List ℕ) (number : ℕ) → NeverFalls g numbers → (HasOwn g numbers number → ⊥) → Leads g number number → ⊥
apart g numbers number never none (Child h) = none (record { child = number; below = h; same = refl })
apart g numbers number never none (Deeper {between = between} h more) =
    let a = never number between h in
    let b = leads_rise g numbers never between number more in
    none (record { child = between; below = h; same = omega arith })

-- ---- the first on a circle

pub none_on_circle : (g : Graph) (place : ℕ) → length g ≤ place → ((number : ℕ) → number < place → Leads g number number → ⊥) → HasCircle g → ⊥
none_on_circle g place past before c = before c.number (let live = leads_live g c.number c.number c.leads in omega arith) c.leads

-- ---- orders

-- along instances, first places fall: so nothing is below itself
data Stands (g : Graph) : ℕ → Type 0 where
  Rests : {number : ℕ} → ((child : ℕ) → StandsIn (children_at g number) child → Stands g child) → Stands g number

stand_all : (g : Graph) (order : List ℕ) → IsOrder g order → (count place number : ℕ) → place < count → slice_get order place ≡ Some number → Stands g number
stand_all g order o zero place number less at = absurd (omega (arith, less))
stand_all g order o (suc count) place number less at = Rests (λ child h. (
    let there = o.after place number child at h in
    let before : there.place < place = taken order place there.place child there.at in
    stand_all g order o count there.place child (omega arith) (untaken order place there.place child there.at)))
  where
    taken : (xs : List ℕ) (n k x : ℕ) → slice_get (take n xs) k ≡ Some x → k < n
    taken [] zero k x h = absurd (none_at k x h)
    taken [] (suc n) k x h = absurd (none_at k x h)
    taken (y ∷ xs) zero k x h = absurd (none_at k x h)
    taken (y ∷ xs) (suc n) zero x h = omega arith
    taken (y ∷ xs) (suc n) (suc k) x h = let r = taken xs n k x h in omega arith

    untaken : (xs : List ℕ) (n k x : ℕ) → slice_get (take n xs) k ≡ Some x → slice_get xs k ≡ Some x
    untaken [] zero k x h = h
    untaken [] (suc n) k x h = h
    untaken (y ∷ xs) zero k x h = absurd (none_at k x h)
    untaken (y ∷ xs) (suc n) zero x h = h
    untaken (y ∷ xs) (suc n) (suc k) x h = untaken xs n k x h

stands_apart : (g : Graph) (number : ℕ) → Stands g number → Leads g number number → ⊥
stands_apart g number (Rests each) (Child h) = stands_apart g number (each number h) (Child h)
stands_apart g number (Rests each) (Deeper {between = between} h more) = stands_apart g between (each between h) (leads_on g between number between more (Child h))

pub ordered_apart : (g : Graph) (order : List ℕ) → IsOrder g order → NoCircle g
ordered_apart g order o number leads =
    let there = o.whole number (leads_live g number number leads) in
    stands_apart g number (stand_all g order o (suc there.place) there.place number (omega arith) there.at) leads

-- ---- tests of one module after another

-- those so far never fall
abbrev pub NeverSoFar : (g : Graph) (numbers : List ℕ) (number : ℕ) → Type 0
NeverSoFar g numbers number = (k : ℕ) → k < number → (child : ℕ) → StandsIn (children_at g k) child → get_or numbers k 0 ≤ get_or numbers child 0

pub never_next : (g : Graph) (numbers : List ℕ) (number : ℕ) (children : List ℕ) → length numbers ≡ length g → number < length g → children ≡ children_at g number →
    ((child : ℕ) → StandsIn children child → get_or numbers number 0 ≤ get_or numbers child 0) → NeverSoFar g numbers number → NeverSoFar g numbers (number + 1)
never_next g numbers number children count live are here before k less child h = elim (cases_lt k number) [
  | inl early ↦ before k early child h
  | inr late ↦ (
      let e : k ≡ number = omega arith in
      let below : StandsIn children child = subst (λ (xs : List ℕ). StandsIn xs child) (sym are) (subst (λ (j : ℕ). StandsIn (children_at g j) child) e h) in
      let r = here child below in
      subst (λ (j : ℕ). get_or numbers j 0 ≤ get_or numbers child 0) (sym e) r)
]

pub never_all : (g : Graph) (numbers : List ℕ) (number : ℕ) → length g ≤ number → NeverSoFar g numbers number → NeverFalls g numbers
never_all g numbers number past before k child h = before k (let live = above_live g k child h in omega arith) child h

pub own_next : (g : Graph) (numbers : List ℕ) (number : ℕ) (children : List ℕ) → children ≡ children_at g number → ((child : ℕ) → StandsIn children child → get_or numbers number 0 ≡ get_or numbers child 0 → ⊥) →
    ((k : ℕ) → k < number → HasOwn g numbers k → ⊥) → (k : ℕ) → k < number + 1 → HasOwn g numbers k → ⊥
own_next g numbers number children are here before k less own = elim (cases_lt k number) [
  | inl early ↦ before k early own
  | inr late ↦ (
      let e : k ≡ number = omega arith in
      let below : StandsIn children own.child = subst (λ (xs : List ℕ). StandsIn xs own.child) (sym are) (subst (λ (j : ℕ). StandsIn (children_at g j) own.child) e own.below) in
      here own.child below (ap (λ (j : ℕ). get_or numbers j 0) (sym e) ∙ own.same))
]

pub first_on_circle : (g : Graph) (numbers : List ℕ) (first : ℕ) → NeverFalls g numbers → first < length g → ((k : ℕ) → k < first → HasOwn g numbers k → ⊥) → Leads g first first → IsFirstOnCircle g first
first_on_circle g numbers first never live before leads = record { live = live; leads = leads; before = λ k less. apart g numbers k never (before k less) }
