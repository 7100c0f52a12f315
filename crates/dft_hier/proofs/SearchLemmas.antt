-- A search from a module: what is met is led to, and where all were passed, what is led to is met.
use Rattle.std.proofs.Common.{ℕ, zero, suc, ◌+◌, ◌<◌, ◌≤◌, ◌≡◌, ◌⊎◌, inl, inr, Bool, true, false, cond, List, [], ◌∷◌, ◌++◌, length, get_or, set, replicate, None, Some, slice_get, refl, sym, ap, subst, arith, ◌∙◌, length-set, true≢false}
use Rattle.std.proofs.lemmas.List.{get_or-set_same, get_or-set_other, length-replicate}
use Rattle.std.proofs.lemmas.Bool.{cases_eq, cases_lt}
use Rattle.std.proofs.lemmas.Option.{slice_get_within, slice_get-get_or}
use Rattle.dft_base.proofs.ListLemmas.{get_left, length_push, none_marked, get_push}
use Rattle.dft_hier.specs.Reach.{Graph, AreBelow, AreWithin, StandsIn, children_at, Leads, Child, Deeper}
use Rattle.dft_hier.specs.Searches.{Met, added, found, found_all}
use Rattle.dft_hier.proofs.ReachLemmas.{stands_left, stands_last, stands_cases, stands_none, stands_push, children_below, leads_on}

abbrev pub is_met : Met → ℕ → Type 0
is_met s k = get_or s.met k false ≡ true

-- how many were not met
abbrev pub unmet : List Bool → ℕ
unmet [] = 0
unmet (true ∷ met) = unmet met
unmet (false ∷ met) = suc (unmet met)

unmet_set : (met : List Bool) (k : ℕ) → k < length met → get_or met k false ≡ false → suc (unmet (set met k true)) ≡ unmet met
unmet_set [] k less is = absurd (omega (arith, less))
unmet_set (true ∷ met) zero less is = absurd (true≢false is)
unmet_set (false ∷ met) zero less is = refl
unmet_set (true ∷ met) (suc k) less is = unmet_set met k (omega (arith, less)) is
unmet_set (false ∷ met) (suc k) less is = ap suc (unmet_set met k (omega (arith, less)) is)

unmet_none : (count : ℕ) → unmet (replicate count false) ≡ count
unmet_none zero = refl
unmet_none (suc count) = ap suc (unmet_none count)

-- what a search keeps: `place` modules were passed
pub record IsSearch (g : Graph) (start place : ℕ) (s : Met) : Type 0 where
  pub count : length s.met ≡ length g
  pub room : unmet s.met + length s.ahead ≡ length g
  pub led : (k : ℕ) → StandsIn s.ahead k → Leads g start k
  pub ahead : (k : ℕ) → is_met s k → StandsIn s.ahead k
  pub passed : (at k child : ℕ) → at < place → slice_get s.ahead at ≡ Some k → StandsIn (children_at g k) child → is_met s child

-- what is met stays met
met_stays : (s : Met) (n k : ℕ) → n < length s.met → is_met s k → get_or (set s.met n true) k false ≡ true
met_stays s n k live is = elim (cases_eq k n) [
  | inl e ↦ ap (λ (j : ℕ). get_or (set s.met n true) j false) e ∙ get_or-set_same s.met n true false live
  | inr apart ↦ get_or-set_other s.met n k true false apart ∙ is
]

pub found_stays : (s : Met) (n k : ℕ) → n < length s.met → is_met s k → is_met (found s n) k
found_stays s n k live is = by (get_or s.met n false)
  where
    by : (t : Bool) → is_met (cond t s (added s n)) k
    by true = is
    by false = met_stays s n k live is

found_is : (s : Met) (n : ℕ) → n < length s.met → is_met (found s n) n
found_is s n live = by (get_or s.met n false) refl
  where
    by : (t : Bool) → get_or s.met n false ≡ t → is_met (cond t s (added s n)) n
    by true is = is
    by false is = get_or-set_same s.met n true false live

found_count : (s : Met) (n : ℕ) → length (found s n).met ≡ length s.met
found_count s n = by (get_or s.met n false)
  where
    by : (t : Bool) → length (cond t s (added s n)).met ≡ length s.met
    by true = refl
    by false = length-set s.met n true

-- a module is met that is led to
found_keeps : (g : Graph) (start place n : ℕ) (s : Met) → n < length g → place ≤ length s.ahead → Leads g start n → IsSearch g start place s → IsSearch g start place (found s n)
found_keeps g start place n s live within leads h = by (get_or s.met n false) refl
  where
    met : (k : ℕ) → is_met s k → get_or (set s.met n true) k false ≡ true
    met k is = met_stays s n k (let c = h.count in omega arith) is

    by : (t : Bool) → get_or s.met n false ≡ t → IsSearch g start place (cond t s (added s n))
    by true is = h
    by false is = record {
      count = length-set s.met n true ∙ h.count;
      room = (let c = h.count in let a = unmet_set s.met n (omega arith) is in let b = length_push s.ahead n in let r = h.room in omega arith);
      led = λ k in_. elim (stands_push s.ahead n k in_) [ inl old ↦ h.led k old | inr here ↦ subst (Leads g start) here leads ];
      ahead = λ k met_. elim (cases_eq k n) [
        | inl e ↦ subst (StandsIn (s.ahead ++ n ∷ [])) (sym e) (stands_last s.ahead n)
        | inr apart ↦ stands_left s.ahead (n ∷ []) k (h.ahead k (sym (get_or-set_other s.met n k true false apart) ∙ met_))
      ];
      passed = λ at k child less is_ below. elim (get_push s.ahead n k at is_) [
        | inl old ↦ met child (h.passed at k child less old below)
        | inr new ↦ absurd (let e = new.0 in omega (arith, less, e))
      ];
    }

found_longer : (s : Met) (n : ℕ) → length s.ahead ≤ length (found s n).ahead
found_longer s n = by (get_or s.met n false)
  where
    by : (t : Bool) → length s.ahead ≤ length (cond t s (added s n)).ahead
    by true = omega arith
    by false = let r = length_push s.ahead n in omega arith

-- all of these are met
pub all_keep : (g : Graph) (start place : ℕ) (numbers : List ℕ) (s : Met) → ((k : ℕ) → StandsIn numbers k → (k < length g) × Leads g start k) → place ≤ length s.ahead → IsSearch g start place s → IsSearch g start place (found_all s numbers)
all_keep g start place [] s led within h = h
all_keep g start place (n ∷ numbers) s led within h =
    let here = led n (record { place = 0; at = refl }) in
    let longer = found_longer s n in
    all_keep g start place numbers (found s n) (λ k in_. led k (record { place = suc in_.place; at = in_.at })) (omega arith) (found_keeps g start place n s here.0 within here.1 h)

all_stay : (numbers : List ℕ) (s : Met) (k : ℕ) → ((n : ℕ) → StandsIn numbers n → n < length s.met) → is_met s k → is_met (found_all s numbers) k
all_stay [] s k live is = is
all_stay (n ∷ numbers) s k live is =
    let here = live n (record { place = 0; at = refl }) in
    all_stay numbers (found s n) k (λ m in_. (let c = found_count s n in let l = live m (record { place = suc in_.place; at = in_.at }) in omega arith)) (found_stays s n k here is)

pub all_met : (numbers : List ℕ) (s : Met) (k : ℕ) → ((n : ℕ) → StandsIn numbers n → n < length s.met) → StandsIn numbers k → is_met (found_all s numbers) k
all_met [] s k live in_ = absurd (stands_none k in_)
all_met (n ∷ numbers) s k live in_ =
    let here = live n (record { place = 0; at = refl }) in
    let later : (m : ℕ) → StandsIn numbers m → m < length (found s n).met = λ m more. (let c = found_count s n in let l = live m (record { place = suc more.place; at = more.at }) in omega arith) in
    by later (found_is s n here) (all_met numbers (found s n) k later) (stands_cases n numbers k in_)
  where
    by : ((m : ℕ) → StandsIn numbers m → m < length (found s n).met) → is_met (found s n) n → (StandsIn numbers k → is_met (found_all (found s n) numbers) k) → (n ≡ k) ⊎ StandsIn numbers k → is_met (found_all (found s n) numbers) k
    by later now more h = elim h [
      | inl e ↦ all_stay numbers (found s n) k later (subst (is_met (found s n)) e now)
      | inr rest ↦ more rest
    ]

-- ---- a search from a module

-- the modules of a module's instances are met, or led to from what was met
pub record HasBegun (g : Graph) (start place : ℕ) (s : Met) : Type 0 where
  pub search : IsSearch g start place s
  pub within : place ≤ length s.ahead
  pub begun : (k : ℕ) → StandsIn (children_at g start) k → is_met s k

pub begins : (g : Graph) (start : ℕ) (children : List ℕ) (s : Met) → AreWithin (length g) g → children ≡ children_at g start → s ≡ found_all (record { met = replicate (length g) false; ahead = [] }) children → HasBegun g start 0 s
begins g start children s within are is =
    let first : Met = record { met = replicate (length g) false; ahead = [] } in
    let size : length (replicate (length g) false) ≡ length g = length-replicate (length g) false in
    let live : (k : ℕ) → StandsIn (children_at g start) k → k < length (replicate (length g) false) = λ k h. (let l = children_below g start within k h in omega arith) in
    let fresh : IsSearch g start 0 first = record {
      count = size;
      room = (let r = unmet_none (length g) in omega arith);
      led = λ k h. absurd (stands_none k h);
      ahead = λ k h. absurd (true≢false (sym h ∙ none_marked (length g) k));
      passed = λ at k child less is_ below. absurd (omega (arith, less));
    } in
    let whole : found_all first (children_at g start) ≡ s = sym (is ∙ ap (found_all first) are) in
    subst (HasBegun g start 0) whole (record {
      search = all_keep g start 0 (children_at g start) first (λ k h. (children_below g start within k h, Child h)) (omega arith) fresh;
      within = omega arith;
      begun = λ k h. all_met (children_at g start) first k live h;
    })

pub goes_on : (g : Graph) (start place next : ℕ) (children : List ℕ) (s t : Met) → AreWithin (length g) g → slice_get s.ahead place ≡ Some next → children ≡ children_at g next → t ≡ found_all s children → HasBegun g start place s → HasBegun g start (place + 1) t
goes_on g start place next children s t within at are is h =
    let u = h.search in
    let here = slice_get_within s.ahead place next at in
    let live : (k : ℕ) → StandsIn (children_at g next) k → k < length s.met = λ k below. (let l = children_below g next within k below in let c = u.count in omega arith) in
    let led : (k : ℕ) → StandsIn (children_at g next) k → (k < length g) × Leads g start k = λ k below. (children_below g next within k below, leads_on g start next k (u.led next (record { place = place; at = at })) (Child below)) in
    let kept = all_keep g start place (children_at g next) s led h.within u in
    let whole : found_all s (children_at g next) ≡ t = sym (is ∙ ap (found_all s) are) in
    subst (HasBegun g start (place + 1)) whole (record {
      search = record {
        count = kept.count;
        room = kept.room;
        led = kept.led;
        ahead = kept.ahead;
        passed = λ at_ k child less is_ below. elim (cases_lt at_ place) [
          | inl before ↦ kept.passed at_ k child before is_ below
          | inr same ↦ (
              let e : at_ ≡ place = omega arith in
              let there : Some k ≡ Some next = sym is_ ∙ ap (slice_get (found_all s (children_at g next)).ahead) e ∙ front (children_at g next) s place next at in
              let n : k ≡ next = cc in
              all_met (children_at g next) s child live (subst (λ (j : ℕ). StandsIn (children_at g j) child) n below))
        ];
      };
      within = (let l = all_longer (children_at g next) s in omega arith);
      begun = λ k below. all_stay (children_at g next) s k live (h.begun k below);
    })
  where
    front_found : (s : Met) (n place k : ℕ) → slice_get s.ahead place ≡ Some k → slice_get (found s n).ahead place ≡ Some k
    front_found s n place k at = by (get_or s.met n false)
      where
        by : (t : Bool) → slice_get (cond t s (added s n)).ahead place ≡ Some k
        by true = at
        by false = get_left s.ahead (n ∷ []) place k at

    front : (numbers : List ℕ) (s : Met) (place k : ℕ) → slice_get s.ahead place ≡ Some k → slice_get (found_all s numbers).ahead place ≡ Some k
    front [] s place k at = at
    front (n ∷ numbers) s place k at = front numbers (found s n) place k (front_found s n place k at)

    all_longer : (numbers : List ℕ) (s : Met) → length s.ahead ≤ length (found_all s numbers).ahead
    all_longer [] s = omega arith
    all_longer (n ∷ numbers) s = let a = found_longer s n in let b = all_longer numbers (found s n) in omega arith

-- where all that was met was passed, what is met is closed
closed : (g : Graph) (start place : ℕ) (s : Met) → HasBegun g start place s → length s.ahead ≤ place → (above below : ℕ) → is_met s above → Leads g above below → is_met s below
closed g start place s h past above below is (Child child) = let there = h.search.ahead above is in let w = slice_get_within s.ahead there.place above there.at in h.search.passed there.place above below (omega arith) there.at child
closed g start place s h past above below is (Deeper {between = between} child more) =
    let there = h.search.ahead above is in
    let w = slice_get_within s.ahead there.place above there.at in
    closed g start place s h past between below (h.search.passed there.place above between (omega arith) there.at child) more

from_start : (g : Graph) (start place : ℕ) (s : Met) → HasBegun g start place s → length s.ahead ≤ place → (below : ℕ) → Leads g start below → is_met s below
from_start g start place s h past below (Child child) = h.begun below child
from_start g start place s h past below (Deeper {between = between} child more) = closed g start place s h past between below (h.begun between child) more

pub yes : (g : Graph) (start place : ℕ) (s : Met) → HasBegun g start place s → get_or s.met start false ≡ true → Leads g start start
yes g start place s h is = h.search.led start (h.search.ahead start is)

pub no : (g : Graph) (start place : ℕ) (s : Met) → HasBegun g start place s → length s.ahead ≤ place → get_or s.met start false ≡ false → Leads g start start → ⊥
no g start place s h past is leads = true≢false (sym (from_start g start place s h past start leads) ∙ is)

pub no_more : (xs : List ℕ) (place : ℕ) → slice_get xs place ≡ None → length xs ≤ place
no_more [] place e = omega arith
no_more (x ∷ xs) zero e = absurd (let f : ⊥ = cc in f)
no_more (x ∷ xs) (suc place) e = let r = no_more xs place e in omega arith

pub all_passed : (g : Graph) (start place : ℕ) (s : Met) → HasBegun g start place s → length g ≤ place → length s.ahead ≤ place
all_passed g start place s h past = let r = h.search.room in omega arith

-- the next module of a search is there, and so are those of its instances
pub next_live : (g : Graph) (start place : ℕ) (s : Met) (next : ℕ) → AreWithin (length g) g → start < length g → slice_get s.ahead place ≡ Some next → HasBegun g start place s → next < length g
next_live g start place s next within live at h = by next (h.search.led next (record { place = place; at = at }))
  where
    by : (below : ℕ) → Leads g start below → below < length g
    by below (Child child) = children_below g start within below child
    by below (Deeper {between = between} child more) = last between below more
      where
        last : (above below : ℕ) → Leads g above below → below < length g
        last above below (Child child) = children_below g above within below child
        last above below (Deeper {between = between} child more) = last between below more

pub next_below : (g : Graph) (start place : ℕ) (s : Met) (next : ℕ) (children : List ℕ) → AreWithin (length g) g → next < length g → children ≡ children_at g next → HasBegun g start place s → AreBelow (length s.met) children
next_below g start place s next children within live are h =
    let c = h.search.count in
    subst (λ (xs : List ℕ). AreBelow (length s.met) xs) (sym are) (λ k d less. (let r = children_below g next within (get_or (children_at g next) k d) (record { place = k; at = slice_get-get_or (children_at g next) k d less }) in omega arith))
