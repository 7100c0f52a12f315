-- A walk down through modules: a module is met, a module is finished, and what all of them give.
use Rattle.std.proofs.Common.{ℕ, zero, suc, ◌+◌, ◌-◌, ◌<◌, ◌≤◌, ◌≡◌, ◌⊎◌, inl, inr, Bool, true, false, not, ◌||◌, ◌&&◌, cond, List, [], ◌∷◌, ◌++◌, length, take, get_or, reverse, replicate, Option, None, Some, slice_get, slice_set, refl, sym, ap, subst, arith, ◌∙◌, length-set, true≢false}
use Rattle.std.proofs.lemmas.List.{reverse-append, take-append-le, take_at, length-replicate}
use Rattle.std.proofs.lemmas.List.Elements.{All-from_get_or}
use Rattle.std.proofs.lemmas.Option.{slice_get_within, slice_get-get_or}
use Rattle.std.proofs.lemmas.Bool.{cases_lt, and_parts}
use Rattle.dft_base.proofs.ListLemmas.{get_push}
use Rattle.dft_hier.specs.declared.descent.State.{State}
use Rattle.dft_hier.specs.declared.descent.State.TheVariants.{New, Walked, Finished}
use Rattle.dft_hier.specs.declared.descent.Visit.{Visit}
use Rattle.dft_hier.specs.Reach.{Graph, AreBelow, AreWithin, StandsIn, children_at, Leads, Child, HasCircle, IsOrder}
use Rattle.dft_hier.specs.Descents.{Stand, entered, met, left, stepped, stepped_to, are_finished, is_finished, is_new}
use Rattle.dft_hier.specs.Walking.{IsOn, LeadsTo, SawBefore, IsWay, IsWalking, IsWalkedTo}
use Rattle.dft_hier.proofs.ReachLemmas.{stands_left, stands_last, stands_cases, stands_none, stands_more, children_below, leads_on}
use Rattle.dft_hier.proofs.SearchLemmas.{no_more}

pub back-push : {A : Type 0} (way : List A) (v : A) → reverse (way ++ v ∷ []) ≡ v ∷ reverse way
back-push way v = reverse-append way (v ∷ [])

-- ---- states

state_at : (states : List State) (k : ℕ) → k < length states → (s : State) × (slice_get states k ≡ Some s)
state_at [] k less = absurd (omega (arith, less))
state_at (s ∷ states) zero less = (s, refl)
state_at (s ∷ states) (suc k) less = state_at states k (omega (arith, less))

-- what a place has behind a write is what was written, or what it had
set_cases : (states : List State) (k j : ℕ) (v u : State) → slice_get (slice_set states k v) j ≡ Some u → ((k ≡ j) × (v ≡ u)) ⊎ (slice_get states j ≡ Some u)
set_cases [] k j v u h = inr h
set_cases (s ∷ states) zero zero v u h = inl (refl, let e : v ≡ u = cc in e)
set_cases (s ∷ states) zero (suc j) v u h = inr h
set_cases (s ∷ states) (suc k) zero v u h = inr h
set_cases (s ∷ states) (suc k) (suc j) v u h = elim (set_cases states k j v u h) [ inl e ↦ inl (ap suc e.0, e.1) | inr old ↦ inr old ]

-- what has another state than the one written had it before
set_other : (states : List State) (k j : ℕ) (v u : State) → (v ≡ u → ⊥) → slice_get (slice_set states k v) j ≡ Some u → slice_get states j ≡ Some u
set_other states k j v u apart h = elim (set_cases states k j v u h) [ inl e ↦ absurd (apart e.1) | inr old ↦ old ]

-- what is written is there
set_here : (states : List State) (k : ℕ) (v u : State) → k < length states → slice_get (slice_set states k v) k ≡ Some u → v ≡ u
set_here [] k v u less h = absurd (omega (arith, less))
set_here (s ∷ states) zero v u less h = cc
set_here (s ∷ states) (suc k) v u less h = set_here states k v u (omega (arith, less)) h

new_finished : Finished ≡ New → ⊥
new_finished e = cc

new_walked : Walked ≡ New → ⊥
new_walked e = cc

walked_finished : Walked ≡ Finished → ⊥
walked_finished e = cc

finished_walked : Finished ≡ Walked → ⊥
finished_walked e = cc

-- ---- ways

way_same : (g : Graph) (s t : List State) → ((k : ℕ) → slice_get t k ≡ Some New → slice_get s k ≡ Some New) → (back : List Visit) → IsWay g s back → IsWay g t back
way_same g s t same [] way = tt
way_same g s t same (v ∷ back) way = (way.0, (λ place child less at new. way.1 place child less at (same child new)), way.2, way_same g s t same back way.3)

-- each module of the way leads to the last
on_leads : (g : Graph) (states : List State) (v : Visit) (back : List Visit) (k : ℕ) → IsWay g states (v ∷ back) → IsOn back k → Leads g k v.number
on_leads g states v [] k way on = absurd on
on_leads g states v (u ∷ back) k way on = elim on [
  | inl is ↦ subst (λ (j : ℕ). Leads g j v.number) is (Child way.2)
  | inr more ↦ leads_on g k u.number v.number (on_leads g states u back k way.3 more) (Child way.2)
]

-- a module of the way that the last has an instance of is below itself
circle_on : (g : Graph) (states : List State) (v : Visit) (back : List Visit) (k : ℕ) → IsWay g states (v ∷ back) → StandsIn (children_at g v.number) k → IsOn (v ∷ back) k → HasCircle g
circle_on g states v back k way child on = elim on [
  | inl is ↦ record { number = k; leads = subst (λ (j : ℕ). Leads g j k) is (Child child) }
  | inr more ↦ record { number = k; leads = leads_on g k v.number k (on_leads g states v back k way more) (Child child) }
]

-- ---- a module is finished

finished_is : (o : Option State) → is_finished o ≡ true → o ≡ Some Finished
finished_is None e = absurd (true≢false (sym e))
finished_is (Some New) e = absurd (true≢false (sym e))
finished_is (Some Walked) e = absurd (true≢false (sym e))
finished_is (Some Finished) e = refl

-- where not all are finished, one is not
pub record IsUnfinished (states : List State) (numbers : List ℕ) : Type 0 where
  pub number : ℕ
  pub among : StandsIn numbers number
  pub open_ : is_finished (slice_get states number) ≡ false

unfinished : (states : List State) (numbers : List ℕ) → are_finished states numbers ≡ false → IsUnfinished states numbers
unfinished states [] e = absurd (true≢false e)
unfinished states (n ∷ numbers) e = by (is_finished (slice_get states n)) refl e (unfinished states numbers)
  where
    by : (b : Bool) → is_finished (slice_get states n) ≡ b → (b && are_finished states numbers) ≡ false → (are_finished states numbers ≡ false → IsUnfinished states numbers) → IsUnfinished states (n ∷ numbers)
    by true is e more = (let u = more e in record { number = u.number; among = stands_more n numbers u.number u.among; open_ = u.open_ })
    by false is e more = record { number = n; among = record { place = 0; at = refl }; open_ = is }

all_finished : (states : List State) (numbers : List ℕ) → are_finished states numbers ≡ true → (k : ℕ) → StandsIn numbers k → slice_get states k ≡ Some Finished
all_finished states [] e k h = absurd (stands_none k h)
all_finished states (n ∷ numbers) e k h =
    let parts = and_parts (is_finished (slice_get states n)) (are_finished states numbers) e in
    by parts.0 (all_finished states numbers parts.1 k) (stands_cases n numbers k h)
  where
    by : is_finished (slice_get states n) ≡ true → (StandsIn numbers k → slice_get states k ≡ Some Finished) → (n ≡ k) ⊎ StandsIn numbers k → slice_get states k ≡ Some Finished
    by here more h = elim h [
      | inl is ↦ subst (λ (j : ℕ). slice_get states j ≡ Some Finished) is (finished_is (slice_get states n) here)
      | inr among ↦ more among
    ]

-- what is neither new nor finished is on the way
remaining : (o : Option State) → (o ≡ None → ⊥) → (o ≡ Some New → ⊥) → is_finished o ≡ false → o ≡ Some Walked
remaining None there new open_ = absurd (there refl)
remaining (Some New) there new open_ = absurd (new refl)
remaining (Some Walked) there new open_ = refl
remaining (Some Finished) there new open_ = absurd (true≢false open_)

there : (states : List State) (k : ℕ) → k < length states → slice_get states k ≡ None → ⊥
there states k less none = let s = state_at states k less in let f : None ≡ Some s.0 = sym none ∙ s.1 in let g : ⊥ = cc in g

saw_all : (g : Graph) (states : List State) (v : Visit) → SawBefore g states v → slice_get (children_at g v.number) v.next ≡ None → (k : ℕ) → StandsIn (children_at g v.number) k → slice_get states k ≡ Some New → ⊥
saw_all g states v saw past k h =
    let within = slice_get_within (children_at g v.number) h.place k h.at in
    let over = no_more (children_at g v.number) v.next past in
    saw h.place k (omega arith) h.at

-- what stands while a visit is taken from the way
abbrev OnWay : (g : Graph) → (s : Stand) → Visit → Type 0
OnWay g s v = IsWalking g (record s { way = s.way ++ v ∷ [] })

the_way : (g : Graph) (s : Stand) (v : Visit) → OnWay g s v → IsWay g s.states (v ∷ reverse s.way)
the_way g s v u = subst (IsWay g s.states) (back-push s.way v) u.way

the_on : (g : Graph) (s : Stand) (v : Visit) → OnWay g s v → (k : ℕ) → slice_get s.states k ≡ Some Walked → IsOn (v ∷ reverse s.way) k
the_on g s v u k walked = subst (λ (back : List Visit). IsOn back k) (back-push s.way v) (u.walked k walked)

left_circle : (g : Graph) (s : Stand) (v : Visit) → AreWithin (length g) g → OnWay g s v → slice_get (children_at g v.number) v.next ≡ None → (c behind : Bool) → (c ≡ true → HasCircle g) → behind ≡ are_finished s.states (children_at g v.number) → (c || not behind) ≡ true → HasCircle g
left_circle g s v within u past true behind old is e = old refl
left_circle g s v within u past false true old is e = absurd (true≢false (sym e))
left_circle g s v within u past false false old is e =
    let way = the_way g s v u in
    let f = unfinished s.states (children_at g v.number) (sym is) in
    let live = children_below g v.number within f.number f.among in
    let count = u.count in
    let walked = remaining (slice_get s.states f.number) (there s.states f.number (omega arith)) (saw_all g s.states v way.1 past f.number f.among) f.open_ in
    circle_on g s.states v (reverse s.way) f.number way f.among (the_on g s v u f.number walked)

or_false_parts : (c behind : Bool) → (c || not behind) ≡ false → (c ≡ false) × (behind ≡ true)
or_false_parts true behind e = absurd (true≢false e)
or_false_parts false true e = (refl, refl)
or_false_parts false false e = absurd (true≢false e)

left_after : (g : Graph) (s : Stand) (v : Visit) → OnWay g s v → (s.circle || not (are_finished s.states (children_at g v.number))) ≡ false → (place number child : ℕ) → slice_get (s.order ++ v.number ∷ []) place ≡ Some number → StandsIn (children_at g number) child → StandsIn (take place (s.order ++ v.number ∷ [])) child
left_after g s v u e place number child at h =
    let parts = or_false_parts s.circle (are_finished s.states (children_at g v.number)) e in
    elim (get_push s.order v.number number place at) [
      | inl old ↦ (
          let w = slice_get_within s.order place number old in
          let within : place ≤ length s.order = omega arith in
          subst (λ (xs : List ℕ). StandsIn xs child) (sym (take-append-le place s.order (v.number ∷ []) within)) (u.after parts.0 place number child old h))
      | inr new ↦ (
          let below : StandsIn (children_at g v.number) child = subst (λ (k : ℕ). StandsIn (children_at g k) child) (sym new.1) h in
          let done = u.finished child (all_finished s.states (children_at g v.number) parts.1 child below) in
          subst (λ (xs : List ℕ). StandsIn xs child) (sym (take_at s.order (v.number ∷ []) place (sym new.0))) done)
    ]

leaves : (g : Graph) (s : Stand) (v : Visit) → AreWithin (length g) g → OnWay g s v → slice_get (children_at g v.number) v.next ≡ None → IsWalking g (left s v.number (are_finished s.states (children_at g v.number)))
leaves g s v within u past =
    let way = the_way g s v u in
    let n = v.number in
    let states : List State = slice_set s.states n Finished in
    let count = u.count in
    record {
      count = length-set s.states n Finished ∙ u.count;
      way = way_same g s.states states (λ k h. set_other s.states n k Finished New new_finished h) (reverse s.way) way.3;
      walked = λ k h. elim (the_on g s v u k (set_other s.states n k Finished Walked finished_walked h)) [
        | inl is ↦ (
            let at : slice_get states n ≡ Some Walked = ap (slice_get states) is ∙ h in
            let live = way.0 in
            absurd (finished_walked (set_here s.states n Finished Walked (omega arith) at)))
        | inr more ↦ more
      ];
      finished = λ k h. elim (set_cases s.states n k Finished Finished h) [
        | inl here ↦ subst (StandsIn (s.order ++ n ∷ [])) here.0 (stands_last s.order n)
        | inr old ↦ stands_left s.order (n ∷ []) k (u.finished k old)
      ];
      live = λ place k at. elim (get_push s.order n k place at) [
        | inl old ↦ u.live place k old
        | inr new ↦ subst (λ (j : ℕ). j < length g) new.1 way.0
      ];
      circle = left_circle g s v within u past s.circle (are_finished s.states (children_at g n)) u.circle refl;
      after = left_after g s v u;
    }

-- ---- a module is met

new_is : (o : Option State) → is_new o ≡ true → o ≡ Some New
new_is None e = absurd (true≢false (sym e))
new_is (Some New) e = refl
new_is (Some Walked) e = absurd (true≢false (sym e))
new_is (Some Finished) e = absurd (true≢false (sym e))

-- the way goes on behind its last visit, which saw the module
enters : (g : Graph) (s : Stand) (n : ℕ) (back : List Visit) → reverse s.way ≡ back → n < length g → IsWay g (slice_set s.states n Walked) back → LeadsTo g back n →
    length s.states ≡ length g → ((k : ℕ) → slice_get s.states k ≡ Some Walked → IsOn back k) →
    ((k : ℕ) → slice_get s.states k ≡ Some Finished → StandsIn s.order k) → ((place k : ℕ) → slice_get s.order place ≡ Some k → k < length g) → (s.circle ≡ true → HasCircle g) →
    (s.circle ≡ false → (place number child : ℕ) → slice_get s.order place ≡ Some number → StandsIn (children_at g number) child → StandsIn (take place s.order) child) → IsWalking g (entered s n)
enters g s n back is live way leads count walked finished order circle after =
    let v : Visit = record { number = n; next = 0 } in
    let whole : reverse (s.way ++ v ∷ []) ≡ v ∷ back = back-push s.way v ∙ ap (λ (b : List Visit). v ∷ b) is in
    record {
      count = length-set s.states n Walked ∙ count;
      way = subst (IsWay g (slice_set s.states n Walked)) (sym whole) (live, (λ place child less at h. absurd (omega (arith, less))), leads, way);
      walked = λ k h. subst (λ (b : List Visit). IsOn b k) (sym whole) (elim (set_cases s.states n k Walked Walked h) [ inl here ↦ inl here.0 | inr old ↦ inr (walked k old) ]);
      finished = λ k h. finished k (set_other s.states n k Walked Finished walked_finished h);
      live = order;
      circle = circle;
      after = after;
    }

-- the next of the instances is met, or was met before
saw_next : (g : Graph) (states : List State) (v : Visit) (child : ℕ) → slice_get (children_at g v.number) v.next ≡ Some child → (slice_get states child ≡ Some New → ⊥) → SawBefore g states v → SawBefore g states (record { number = v.number; next = v.next + 1 })
saw_next g states v child at not_new saw place other less there new = elim (cases_lt place v.next) [
  | inl before ↦ saw place other before there new
  | inr here ↦ (
      let e : v.next ≡ place = omega arith in
      let same : Some child ≡ Some other = sym at ∙ ap (slice_get (children_at g v.number)) e ∙ there in
      let is : child ≡ other = cc in
      not_new (ap (slice_get states) is ∙ new))
]

-- a visit that goes on
abbrev passed : Visit → Visit
passed v = record { number = v.number; next = v.next + 1 }

abbrev and_passed : Stand → Visit → Stand
and_passed s v = record s { way = s.way ++ passed v ∷ [] }

goes_on : (g : Graph) (s : Stand) (v : Visit) (child : ℕ) (t : Bool) → AreWithin (length g) g → OnWay g s v → slice_get (children_at g v.number) v.next ≡ Some child → is_new (slice_get s.states child) ≡ t →
    IsWalking g (cond t (entered (and_passed s v) child) (and_passed s v))
goes_on g s v child true within u at is =
    let way = the_way g s v u in
    let states : List State = slice_set s.states child Walked in
    let below : StandsIn (children_at g v.number) child = record { place = v.next; at = at } in
    let live = children_below g v.number within child below in
    let count = u.count in
    let before : (k : ℕ) → slice_get states k ≡ Some New → slice_get s.states k ≡ Some New = λ k h. set_other s.states child k Walked New new_walked h in
    let not_new : slice_get states child ≡ Some New → ⊥ = λ h. new_walked (set_here s.states child Walked New (omega arith) h) in
    let saw : SawBefore g states (passed v) = saw_next g states v child at not_new (λ place other less there new. way.1 place other less there (before other new)) in
    enters g (and_passed s v) child (passed v ∷ reverse s.way) (back-push s.way (passed v)) live
    (way.0, saw, way.2, way_same g s.states states before (reverse s.way) way.3) below u.count
    (λ k h. the_on g s v u k h) u.finished u.live u.circle u.after
goes_on g s v child false within u at is =
    let way = the_way g s v u in
    let not_new : slice_get s.states child ≡ Some New → ⊥ = λ h. true≢false (sym (ap is_new h) ∙ is) in
    record {
      count = u.count;
      way = subst (IsWay g s.states) (sym (back-push s.way (passed v))) (way.0, saw_next g s.states v child at not_new way.1, way.2, way.3);
      walked = λ k h. subst (λ (b : List Visit). IsOn b k) (sym (back-push s.way (passed v))) (the_on g s v u k h);
      finished = u.finished;
      live = u.live;
      circle = u.circle;
      after = u.after;
    }

step_case : (g : Graph) (s : Stand) (v : Visit) (o : Option ℕ) → AreWithin (length g) g → OnWay g s v → slice_get (children_at g v.number) v.next ≡ o → IsWalking g (stepped_to s v (children_at g v.number) o)
step_case g s v None within u is = leaves g s v within u is
step_case g s v (Some child) within u is = goes_on g s v child (is_new (slice_get s.states child)) within u is refl

pub steps : (g : Graph) (s : Stand) (v : Visit) → AreWithin (length g) g → OnWay g s v → IsWalking g (stepped s v (children_at g v.number))
steps g s v within u = step_case g s v (slice_get (children_at g v.number) v.next) within u refl

-- what is new was new before
new_met : (s : Stand) (n k : ℕ) (t : Bool) → slice_get (cond t (entered s n) s).states k ≡ Some New → slice_get s.states k ≡ Some New
new_met s n k true h = set_other s.states n k Walked New new_walked h
new_met s n k false h = h

new_case : (s : Stand) (v : Visit) (children : List ℕ) (o : Option ℕ) (k : ℕ) → slice_get (stepped_to s v children o).states k ≡ Some New → slice_get s.states k ≡ Some New
new_case s v children None k h = set_other s.states v.number k Finished New new_finished h
new_case s v children (Some child) k h = new_met (and_passed s v) child k (is_new (slice_get s.states child)) h

pub new_before : (s : Stand) (v : Visit) (children : List ℕ) (k : ℕ) → slice_get (stepped s v children).states k ≡ Some New → slice_get s.states k ≡ Some New
new_before s v children k h = new_case s v children (slice_get children v.next) k h

-- ---- how much of a walk is left

abbrev visit_weight : (g : Graph) (v : Visit) → ℕ
visit_weight g v = length (children_at g v.number) - v.next + 1

abbrev way_weight : Graph → List Visit → ℕ
way_weight g [] = 0
way_weight g (v ∷ way) = visit_weight g v + way_weight g way

-- a module that was not met owes a visit
abbrev owed : State → List ℕ → ℕ
owed New children = length children + 1
owed Walked children = 0
owed Finished children = 0

abbrev open_weight : Graph → List State → ℕ
open_weight [] states = 0
open_weight (children ∷ g) [] = 0
open_weight (children ∷ g) (s ∷ states) = owed s children + open_weight g states

abbrev pub walk_weight : Graph → Stand → ℕ
walk_weight g s = open_weight g s.states + way_weight g s.way

way-push : (g : Graph) (way : List Visit) (v : Visit) → way_weight g (way ++ v ∷ []) ≡ way_weight g way + visit_weight g v
way-push g [] v = omega arith
way-push g (w ∷ way) v = let r = way-push g way v in omega arith

open_set : (g : Graph) (states : List State) (k : ℕ) (v : State) → ((children : List ℕ) → owed v children ≡ 0) → open_weight g (slice_set states k v) ≤ open_weight g states
open_set [] states k v none = omega arith
open_set (c ∷ g) [] k v none = omega arith
open_set (c ∷ g) (s ∷ states) zero v none = let e = none c in omega arith
open_set (c ∷ g) (s ∷ states) (suc k) v none = let r = open_set g states k v none in omega arith

open_new : (g : Graph) (states : List State) (k : ℕ) → length states ≡ length g → slice_get states k ≡ Some New → open_weight g (slice_set states k Walked) + (length (children_at g k) + 1) ≡ open_weight g states
open_new [] [] k count new = absurd (let f : ⊥ = cc in f)
open_new [] (s ∷ states) k count new = absurd (omega (arith, count))
open_new (c ∷ g) [] k count new = absurd (let f : ⊥ = cc in f)
open_new (c ∷ g) (s ∷ states) zero count new = let e : s ≡ New = cc in rw e (omega arith)
open_new (c ∷ g) (s ∷ states) (suc k) count new = let r = open_new g states k (omega (arith, count)) new in omega arith

some_within : (xs : List ℕ) (k child : ℕ) → slice_get xs k ≡ Some child → k < length xs
some_within xs k child at = slice_get_within xs k child at

weight_met : (g : Graph) (s : Stand) (v : Visit) (child : ℕ) (t : Bool) → length s.states ≡ length g → slice_get (children_at g v.number) v.next ≡ Some child → is_new (slice_get s.states child) ≡ t →
    walk_weight g (cond t (entered (and_passed s v) child) (and_passed s v)) < open_weight g s.states + (way_weight g s.way + visit_weight g v)
weight_met g s v child true count at is =
    let within = some_within (children_at g v.number) v.next child at in
    let a = open_new g s.states child count (new_is (slice_get s.states child) is) in
    let b = way-push g (s.way ++ passed v ∷ []) (record { number = child; next = 0 }) in
    let c = way-push g s.way (passed v) in
    omega arith
weight_met g s v child false count at is =
    let within = some_within (children_at g v.number) v.next child at in
    let c = way-push g s.way (passed v) in
    omega arith

weight_case : (g : Graph) (s : Stand) (v : Visit) (o : Option ℕ) → length s.states ≡ length g → slice_get (children_at g v.number) v.next ≡ o → walk_weight g (stepped_to s v (children_at g v.number) o) < open_weight g s.states + (way_weight g s.way + visit_weight g v)
weight_case g s v None count is = let a = open_set g s.states v.number Finished (λ c. refl) in omega arith
weight_case g s v (Some child) count is = weight_met g s v child (is_new (slice_get s.states child)) count is refl

pub weight_falls : (g : Graph) (s : Stand) (v : Visit) → length s.states ≡ length g → walk_weight g (stepped s v (children_at g v.number)) < walk_weight g (record s { way = s.way ++ v ∷ [] })
weight_falls g s v count =
    let a = weight_case g s v (slice_get (children_at g v.number) v.next) count refl in
    let b = way-push g s.way v in
    omega arith

-- ---- a walk from one module

-- what is under way while the modules before this one were met
pub record IsUnderWay (g : Graph) (number : ℕ) (s : Stand) : Type 0 where
  pub walking : IsWalking g s
  pub before : (other : ℕ) → other < number → slice_get s.states other ≡ Some New → ⊥

starts_case : (g : Graph) (number : ℕ) (s : Stand) (t : Bool) → number < length g → IsWalkedTo g number s → is_new (slice_get s.states number) ≡ t → IsUnderWay g (number + 1) (cond t (entered s number) s)
starts_case g number s true live w is =
    let u = w.walking in
    let count = u.count in
    let none : reverse s.way ≡ [] = ap (λ (way : List Visit). reverse way) w.none in
    record {
      walking = enters g s number [] none live tt tt u.count (λ k h. subst (λ (back : List Visit). IsOn back k) none (u.walked k h)) u.finished u.live u.circle u.after;
      before = λ other less new. elim (cases_lt other number) [
        | inl before ↦ w.before other before (set_other s.states number other Walked New new_walked new)
        | inr here ↦ (
            let e : other ≡ number = omega arith in
            new_walked (set_here s.states number Walked New (omega arith) (sym (ap (slice_get (slice_set s.states number Walked)) e) ∙ new)))
      ];
    }
starts_case g number s false live w is = record {
  walking = w.walking;
  before = λ other less new. elim (cases_lt other number) [
    | inl before ↦ w.before other before new
    | inr here ↦ (
        let e : other ≡ number = omega arith in
        true≢false (sym (ap is_new (sym (ap (slice_get s.states) e) ∙ new)) ∙ is))
  ];
}

pub starts : (g : Graph) (number : ℕ) (s : Stand) → number < length g → IsWalkedTo g number s → IsUnderWay g (number + 1) (met s number)
starts g number s live w = starts_case g number s (is_new (slice_get s.states number)) live w refl

pub goes : (g : Graph) (number : ℕ) (old s new : Stand) (v : Visit) (children : List ℕ) → AreWithin (length g) g → old ≡ record s { way = s.way ++ v ∷ [] } → children ≡ children_at g v.number → new ≡ stepped s v children → IsUnderWay g number old → IsUnderWay g number new
goes g number old s new v children within taken are is u =
    let p : IsUnderWay g number (record s { way = s.way ++ v ∷ [] }) = subst (IsUnderWay g number) taken u in
    let next : new ≡ stepped s v (children_at g v.number) = is ∙ ap (stepped s v) are in
    subst (IsUnderWay g number) (sym next) (record {
      walking = steps g s v within p.walking;
      before = λ other less h. p.before other less (new_before s v (children_at g v.number) other h);
    })

pub smaller : (g : Graph) (number : ℕ) (old s new : Stand) (v : Visit) (children : List ℕ) → old ≡ record s { way = s.way ++ v ∷ [] } → children ≡ children_at g v.number → new ≡ stepped s v children → IsUnderWay g number old → walk_weight g new < walk_weight g old
smaller g number old s new v children taken are is u =
    let p : IsUnderWay g number (record s { way = s.way ++ v ∷ [] }) = subst (IsUnderWay g number) taken u in
    let next : new ≡ stepped s v (children_at g v.number) = is ∙ ap (stepped s v) are in
    let less = weight_falls g s v p.walking.count in
    let a : walk_weight g new ≡ walk_weight g (stepped s v (children_at g v.number)) = ap (walk_weight g) next in
    let b : walk_weight g old ≡ walk_weight g (record s { way = s.way ++ v ∷ [] }) = ap (walk_weight g) taken in
    omega arith

-- the last module of the way is there
pub top_live : (g : Graph) (number : ℕ) (old s : Stand) (v : Visit) → old ≡ record s { way = s.way ++ v ∷ [] } → IsUnderWay g number old → v.number < length g
top_live g number old s v taken u = let p : IsUnderWay g number (record s { way = s.way ++ v ∷ [] }) = subst (IsUnderWay g number) taken u in (the_way g s v p.walking).0

pub top_count : (g : Graph) (number : ℕ) (old s : Stand) (v : Visit) → old ≡ record s { way = s.way ++ v ∷ [] } → IsUnderWay g number old → length s.states ≡ length g
top_count g number old s v taken u = let p : IsUnderWay g number (record s { way = s.way ++ v ∷ [] }) = subst (IsUnderWay g number) taken u in p.walking.count

pub ends : (g : Graph) (number : ℕ) (s : Stand) → s.way ≡ [] → IsUnderWay g number s → IsWalkedTo g number s
ends g number s none u = record { walking = u.walking; none = none; before = u.before }

-- ---- the whole walk

new_states : (count k : ℕ) (s : State) → slice_get (replicate count New) k ≡ Some s → New ≡ s
new_states zero k s h = absurd (let f : ⊥ = cc in f)
new_states (suc count) zero s h = cc
new_states (suc count) (suc k) s h = new_states count k s h

pub begins : (g : Graph) (count : ℕ) → count ≡ length g → IsWalkedTo g 0 (record { states = replicate count New; way = []; order = []; circle = false })
begins g count is = record {
  walking = record {
    count = length-replicate count New ∙ is;
    way = tt;
    walked = λ k h. (let e : New ≡ Walked = new_states count k Walked h in let f : ⊥ = cc in absurd f);
    finished = λ k h. (let e : New ≡ Finished = new_states count k Finished h in let f : ⊥ = cc in absurd f);
    live = λ place k at. absurd (let f : ⊥ = cc in f);
    circle = λ e. absurd (true≢false (sym e));
    after = λ e place k child at. absurd (let f : ⊥ = cc in f);
  };
  none = refl;
  before = λ other less. absurd (omega (arith, less));
}

state_finished : (o : Option State) → (o ≡ None → ⊥) → (o ≡ Some New → ⊥) → (o ≡ Some Walked → ⊥) → o ≡ Some Finished
state_finished None a b c = absurd (a refl)
state_finished (Some New) a b c = absurd (b refl)
state_finished (Some Walked) a b c = absurd (c refl)
state_finished (Some Finished) a b c = refl

pub whole_order : (g : Graph) (count : ℕ) (s : Stand) → length g ≤ count → IsWalkedTo g count s → s.circle ≡ false → IsOrder g s.order
whole_order g count s past w none =
    let u = w.walking in
    let size = u.count in
    record {
      whole = λ k live. u.finished k (state_finished (slice_get s.states k) (there s.states k (omega arith)) (w.before k (omega arith))
          (λ walked. subst (λ (way : List Visit). IsOn (reverse way) k) w.none (u.walked k walked)));
      after = u.after none;
    }

pub whole_live : (g : Graph) (count : ℕ) (s : Stand) → IsWalkedTo g count s → AreBelow (length g) s.order
whole_live g count s w = All-from_get_or (λ (n : ℕ). n < length g) s.order 0 (λ i less. w.walking.live i (get_or s.order i 0) (slice_get-get_or s.order i 0 less))
