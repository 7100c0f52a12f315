-- Lists: elements by their place, ranges, and what is past the end.
use Rattle.std.proofs.Common.{◌≡◌, ℕ, zero, suc, List, [], ◌∷◌, ◌++◌, Some, slice_get, ◌+◌, length, ap, arith, ◌∙◌, ◌<◌, refl, map, drop, ◌≤◌, inl, inr, sym, subst, false, replicate, get_or, ◌-◌, Bool, ◌⊎◌, true, not, cond, ltb, None, option_map, find, flat_map, take, ◌||◌, set, ◌==◌}
use Rattle.std.proofs.lemmas.List.{drop_more, get_or_past, get_or-replicate, length-replicate, append-nil, at_drop_all, drop_all, take_all, with_items_is, get_or-set_other, get_or-set_same}
use Rattle.std.proofs.lemmas.Option.{slice_get_within, get_or_from_slice_get, same_Some}
use Rattle.std.specs.List.{AllByRecursion, range_with_len, list_any}
use Rattle.std.specs.Global.{Vec}
use Rattle.std.specs.Vec.{with_items}
use Rattle.std.proofs.lemmas.Bool.{cases_lt, cases_eq}
use Rattle.std.proofs.lemmas.Bool.Decides.{nat_tests, leb_tells}
use Rattle.dft_base.specs.Ranges.{going_up}
use Rattle.dft_base.specs.Solutions.{bit_at}
use Rattle.dft_base.proofs.NumberLemmas.{one_left, other_test, same_number}
use Rattle.dft_base.proofs.BitLemmas.{or_false, or_true}

pub get_left : {X : Type 0} (xs ys : List X) (k : ℕ) (x : X) → slice_get xs k ≡ Some x → slice_get (xs ++ ys) k ≡ Some x
get_left [] ys k x h = absurd (cc)
get_left (y ∷ xs) ys zero x h = h
get_left (y ∷ xs) ys (suc k) x h = get_left xs ys k x h

pub get_right : {X : Type 0} (xs ys : List X) (k : ℕ) (y : X) → slice_get ys k ≡ Some y → slice_get (xs ++ ys) (length xs + k) ≡ Some y
get_right [] ys k y h = ap (slice_get ys) (let e : 0 + k ≡ k = omega arith in e) ∙ h
get_right (x ∷ xs) ys k y h = ap (slice_get (x ∷ (xs ++ ys))) (let e : suc (length xs) + k ≡ suc (length xs + k) = omega arith in e) ∙ get_right xs ys k y h

pub get_there : {X : Type 0} (xs : List X) (k : ℕ) → k < length xs → (x : X) × (slice_get xs k ≡ Some x)
get_there [] k less = absurd (omega (arith, less))
get_there (x ∷ xs) zero less = (x, refl)
get_there (x ∷ xs) (suc k) less = get_there xs k (omega (arith, less))

pub at_of_map : {X Y : Type 0} (f : X → Y) (xs : List X) (k : ℕ) (y : Y) → slice_get (map f xs) k ≡ Some y → (x : X) × (slice_get xs k ≡ Some x) × (f x ≡ y)
at_of_map f [] k y at = absurd (let g : ⊥ = cc in g)
at_of_map f (x ∷ xs) zero y at = (x, refl, cc)
at_of_map f (x ∷ xs) (suc k) y at = at_of_map f xs k y at

pub length_push : {X : Type 0} (xs : List X) (x : X) → length (xs ++ x ∷ []) ≡ suc (length xs)
length_push [] x = refl
length_push (y ∷ xs) x = ap suc (length_push xs x)

-- the list from an item on
pub drop_at : {T : Type 0} (xs : List T) (k : ℕ) (x : T) → slice_get xs k ≡ Some x → drop k xs ≡ x ∷ drop (k + 1) xs
drop_at {T = T} xs k x at = drop_more xs k x (slice_get_within xs k x at) ∙ ap (λ (y : T). y ∷ drop (k + 1) xs) (get_or_from_slice_get xs k x x at)

pub drop_over : {T : Type 0} (xs : List T) (i : ℕ) → length xs ≤ i → drop i xs ≡ []
drop_over [] zero h = refl
drop_over [] (suc i) h = refl
drop_over (x ∷ xs) zero h = absurd (omega (arith, h))
drop_over (x ∷ xs) (suc i) h = drop_over xs i (omega (arith, h))

pub all_append : {A : Type 0} (P : A → Type 0) (xs ys : List A) → AllByRecursion P xs → AllByRecursion P ys → AllByRecursion P (xs ++ ys)
all_append P [] ys h k = k
all_append P (x ∷ xs) ys h k = (h.0, all_append P xs ys h.1 k)

pub all_front : {A : Type 0} (P : A → Type 0) (xs ys : List A) → AllByRecursion P (xs ++ ys) → AllByRecursion P xs
all_front P [] ys all = tt
all_front P (x ∷ xs) ys all = (all.0, all_front P xs ys all.1)

pub all_back : {A : Type 0} (P : A → Type 0) (xs ys : List A) → AllByRecursion P (xs ++ ys) → AllByRecursion P ys
all_back P [] ys all = all
all_back P (x ∷ xs) ys all = all_back P xs ys all.1

pub all_get : {A : Type 0} (P : A → Type 0) (xs : List A) (k : ℕ) (x : A) → AllByRecursion P xs → slice_get xs k ≡ Some x → P x
all_get P [] k x all at = absurd (cc)
all_get P (y ∷ xs) zero x all at = subst P (same_Some y x at) all.0
all_get P (y ∷ xs) (suc k) x all at = all_get P xs k x all.1 at

pub each_more : {X : Type 0} (P : ℕ → X → Type 0) (xs : List X) (index : ℕ) (here : X) → ((k : ℕ) (x : X) → k < index → slice_get xs k ≡ Some x → P k x) → slice_get xs index ≡ Some here → P index here →
    (k : ℕ) (x : X) → k < index + 1 → slice_get xs k ≡ Some x → P k x
each_more P xs index here before at is k x lt same = elim (cases_lt k index) [
  | inl less ↦ before k x less same
  | inr least ↦ (
      let e : index ≡ k = omega arith in
      let s : Some here ≡ Some x = sym at ∙ ap (slice_get xs) e ∙ same in
      let t : here ≡ x = cc in
      subst (λ j. P j x) e (subst (P index) t is))
]

pub each_all : {X : Type 0} (P : ℕ → X → Type 0) (xs : List X) (index : ℕ) → length xs ≤ index → ((k : ℕ) (x : X) → k < index → slice_get xs k ≡ Some x → P k x) → (k : ℕ) (x : X) → slice_get xs k ≡ Some x → P k x
each_all P xs index all before k x at = before k x (let lt = slice_get_within xs k x at in omega arith) at

pub none_marked : (n k : ℕ) → get_or (replicate n false) k false ≡ false
none_marked zero k = refl
none_marked (suc n) zero = refl
none_marked (suc n) (suc k) = none_marked n k

pub range_over : (k n : ℕ) → n ≤ k → range_with_len k (n - k) ≡ []
range_over k n past = let e : n - k ≡ 0 = omega (arith, past) in ap (range_with_len k) e

pub get_range : (from count k : ℕ) → k < count → slice_get (range_with_len from count) k ≡ Some (from + k)
get_range from zero k h = absurd (omega (arith, h))
get_range from (suc count) zero h = ap Some (omega arith)
get_range from (suc count) (suc k) h = get_range (from + 1) count k (omega (arith, h)) ∙ ap Some (omega arith)

pub range_split : (from k m : ℕ) → range_with_len from (k + m) ≡ range_with_len from k ++ range_with_len (from + k) m
range_split from zero m = let e : 0 + m ≡ m = omega arith in let same : from ≡ from + 0 = omega arith in ap (range_with_len from) e ∙ ap (λ (a : ℕ). range_with_len a m) same
range_split from (suc k) m =
    let e : suc k + m ≡ suc (k + m) = omega arith in
    let same : from + 1 + k ≡ from + suc k = omega arith in
    ap (range_with_len from) e ∙ ap (λ (xs : List ℕ). from ∷ xs) (range_split (from + 1) k m ∙ ap (λ (a : ℕ). range_with_len (from + 1) k ++ range_with_len a m) same)

pub range_last : (k : ℕ) → range_with_len 0 (k + 1) ≡ range_with_len 0 k ++ k ∷ []
range_last k = let at : 0 + k ≡ k = omega arith in range_split 0 k 1 ∙ ap (λ (a : ℕ). range_with_len 0 k ++ a ∷ []) at

pub going_up-append : (from m n : ℕ) → going_up from (m + n) ≡ going_up from m ++ going_up (from + m) n
going_up-append from zero n = let e : from ≡ from + 0 = omega arith in let m : 0 + n ≡ n = omega arith in ap (going_up from) m ∙ ap (λ k. going_up k n) e
going_up-append from (suc m) n = let e : suc from + m ≡ from + suc m = omega arith in let more : suc m + n ≡ suc (m + n) = omega arith in ap (going_up from) more ∙ ap (λ xs. from ∷ xs) (going_up-append (suc from) m n ∙ ap (λ k. going_up (suc from) m ++ going_up k n) e)

pub zero_bit : (n c : ℕ) → (c < n) ⊎ (n ≤ c) → bit_at (replicate n false) c ≡ false
zero_bit n c (inl less) = get_or-replicate n c false false less
zero_bit n c (inr past) = let size = length-replicate {A = Bool} n false in get_or_past (replicate n false) c false (omega arith)

-- the place of the first that passes, one more in front
pub cons_by : (t : Bool) (n len : ℕ) → cond (ltb (cond (not t) (1 + n) 0) (suc len)) (Some (cond (not t) (1 + n) 0)) None ≡ cond t (Some 0) (option_map suc (cond (ltb n len) (Some n) None))
cons_by true n len = let e : ltb 0 (suc len) ≡ true = grind (arith, nat_tests) in rw e refl
cons_by false n len = inner (ltb n len) refl
  where
    inner : (s : Bool) → ltb n len ≡ s → cond (ltb (1 + n) (suc len)) (Some (1 + n)) None ≡ option_map suc (cond s (Some n) None)
    inner true is = let e : ltb (1 + n) (suc len) ≡ true = grind (arith, nat_tests) in let m : 1 + n ≡ suc n = omega arith in rw (e, m) refl
    inner false is = let e : ltb (1 + n) (suc len) ≡ false = grind (arith, nat_tests) in rw e refl

pub same_all : {X : Type 0} (n i : ℕ) (x : X) → get_or (replicate n x) i x ≡ x
same_all n i x = elim (leb_tells n i) [
  | inl far ↦ get_or_past (replicate n x) i x (let e = length-replicate n x in omega (arith, far.1, e))
  | inr near ↦ get_or-replicate n i x x near.1
]

pub refilled_length : {X : Type 0} (v : Vec X) (ws : List X) → length (with_items v ws).items ≡ length v.items
refilled_length v ws = sym (with_items v ws).ok.0 ∙ v.ok.0

pub refilled_items : {X : Type 0} (v : Vec X) (ws rs : List X) → length ws ≡ length rs → rs ≡ v.items → (with_items v ws).items ≡ ws
refilled_items v ws rs a e = with_items_is v ws (a ∙ ap length e ∙ sym v.ok.0)

-- the first of the parts that are left
pub flat_on : {X : Type 0} (f : ℕ → List X) (k total : ℕ) → k < total → flat_map f (range_with_len k (total - k)) ≡ f k ++ flat_map f (range_with_len (k + 1) (total - (k + 1)))
flat_on f k total less = ap (λ (m : ℕ). flat_map f (range_with_len k m)) (one_left k total less)

pub flat_over : {X : Type 0} (f : ℕ → List X) (k total : ℕ) → total ≤ k → flat_map f (range_with_len k (total - k)) ≡ []
flat_over f k total past = let none : total - k ≡ 0 = omega arith in ap (λ (m : ℕ). flat_map f (range_with_len k m)) none

-- an item of a list with one more is among the others, or the last
pub get_push : {X : Type 0} (xs : List X) (y p : X) (k : ℕ) → slice_get (xs ++ y ∷ []) k ≡ Some p → (slice_get xs k ≡ Some p) ⊎ ((k ≡ length xs) × (y ≡ p))
get_push [] y p zero at = inr (refl, same_Some y p at)
get_push [] y p (suc k) at = absurd (let f : ⊥ = cc in f)
get_push (x ∷ xs) y p zero at = inl at
get_push (x ∷ xs) y p (suc k) at = pushed_next xs y p k (get_push xs y p k at) where
  pushed_next : {X : Type 0} (xs : List X) (y p : X) (k : ℕ) → (slice_get xs k ≡ Some p) ⊎ ((k ≡ length xs) × (y ≡ p)) → (slice_get xs k ≡ Some p) ⊎ ((suc k ≡ suc (length xs)) × (y ≡ p))
  pushed_next xs y p k (inl there) = inl there
  pushed_next xs y p k (inr last) = inr (ap suc last.0, last.1)

pub zeros_case : (n i : ℕ) → (i < n) ⊎ (n ≤ i) → get_or {A = ℕ} (replicate n 0) i 0 ≡ 0
zeros_case n i (inl less) = get_or-replicate n i 0 0 less
zeros_case n i (inr past) = let size = length-replicate {A = ℕ} n 0 in get_or_past (replicate n 0) i 0 (omega arith)

pub find_over : {X : Type 0} (p : X → Bool) (xs : List X) (k : ℕ) → length xs ≤ k → find p (drop k xs) ≡ None
find_over p xs k past = at_drop_all (find p) xs k past

-- what was put over the whole list is there
pub take_new : (old new : List Bool) (count : ℕ) → count ≡ length old → length new ≡ length old → take count (new ++ drop (length new) old) ≡ new
take_new old new count size same =
    let none : drop (length new) old ≡ [] = drop_all (length new) old (omega arith) in
    ap (λ (rest : List Bool). take count (new ++ rest)) none ∙ ap (take count) (append-nil new) ∙ take_all count new (omega arith)

pub any_map : {A B : Type 0} (test : B → Bool) (g : A → B) (xs : List A) → list_any test (map g xs) ≡ list_any (λ x. test (g x)) xs
any_map test g [] = refl
any_map test g (x ∷ xs) = ap (λ (b : Bool). test (g x) || b) (any_map test g xs)

-- a mark more
pub marked : (marks : List Bool) (k i : ℕ) → k < length marks → get_or (set marks k true) i false ≡ (get_or marks i false || (k == i))
marked marks k i live = elim (cases_eq i k) [
  | inl e ↦ ap (λ (j : ℕ). get_or (set marks k true) j false) e ∙ get_or-set_same marks k true false live ∙ sym (ap (λ (j : ℕ). get_or marks i false || (k == j)) e ∙ ap (λ (b : Bool). get_or marks i false || b) (same_number k) ∙ or_true (get_or marks i false))
  | inr apart ↦ get_or-set_other marks k i true false apart ∙ sym (ap (λ (b : Bool). get_or marks i false || b) (other_test i k apart) ∙ or_false (get_or marks i false))
]

-- a place behind the first of two lists
pub record Behind {X : Type 0} (front back : List X) (k : ℕ) (x : X) : Type 0 where
  pub place : ℕ
  pub number : k ≡ length front + place
  pub here : slice_get back place ≡ Some x

pub at_either : {X : Type 0} (xs ys : List X) (k : ℕ) (x : X) → slice_get (xs ++ ys) k ≡ Some x → (slice_get xs k ≡ Some x) ⊎ Behind xs ys k x
at_either [] ys k x h = inr (record { place = k; number = omega arith; here = h })
at_either (y ∷ xs) ys zero x h = inl h
at_either (y ∷ xs) ys (suc k) x h = elim (at_either xs ys k x h) [ inl a ↦ inl a | inr b ↦ inr (record { place = b.place; number = (let e = b.number in omega arith); here = b.here }) ]
