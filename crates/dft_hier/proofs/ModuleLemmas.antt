-- Modules by their names and by their numbers: which stand below which, and which are tops.
use Rattle.std.proofs.Common.{ℕ, zero, suc, ◌+◌, ◌<◌, ◌≡◌, ◌==◌, ◌⊎◌, inl, inr, Bool, true, false, not, ◌||◌, cond, List, [], ◌∷◌, ◌++◌, length, take, drop, get_or, map, filter, Option, None, Some, slice_get, refl, sym, ap, subst, arith, ◌∙◌, true≢false}
use Rattle.std.specs.List.{list_any, cons_option, range_with_len}
use Rattle.std.specs.Str.{bytes_eq}
use Rattle.std.proofs.lemmas.List.{take-append-drop}
use Rattle.std.proofs.lemmas.Option.{slice_get-get_or}
use Rattle.std.proofs.lemmas.Bool.{cases_eq, or_right}
use Rattle.std.proofs.lemmas.Bool.Decides.{nat_tests}
use Rattle.dft_base.specs.Lexing.{Text}
use Rattle.dft_base.proofs.TextLemmas.{same_text, bytes_eq-self, differ}
use Rattle.dft_base.proofs.NumberLemmas.{same_number}
use Rattle.dft_base.proofs.ListLemmas.{drop_at}
use Rattle.dft_modules.specs.declared.module.SubInstance.{SubInstance}
use Rattle.dft_modules.specs.Modules.{Module}
use Rattle.dft_hier.specs.Hierarchy.{subs_of, find_module, has_instance_of, tops, HaveOwnNames}
use Rattle.dft_numbered.specs.Numbers.{first_from}
use Rattle.dft_hier.specs.Numbers.{module_names, number_of, numbers_of_subs, children_of}
use Rattle.dft_hier.specs.Reach.{Graph, StandsIn, Leads, Child, Deeper, NoCircle, IsFirstOnCircle}
use Rattle.dft_hier.specs.Refusals.{IsBelow, Within as BelowWithin, Deeper as BelowDeeper, NoneInItself, IsFirstInItself}
use Rattle.dft_hier.specs.TopNumbers.{is_instantiated, top_numbers, IsTop}
use Rattle.dft_hier.proofs.NumberLemmas.{module_there, number_within, graph_count}
use Rattle.dft_hier.proofs.FitLemmas.{children_of_at}
use Rattle.dft_hier.proofs.ReachLemmas.{stands_cases, stands_none, stands_behind}

-- ---- the number of a name

first_there : (all : List Module) (number : ℕ) (ms : List Module) (name : Text) (m : Module) → find_module ms name ≡ Some m → (k : ℕ) × (first_from number (module_names ms) name ≡ Some k)
first_there all number [] name m is = absurd (let f : ⊥ = cc in f)
first_there all number (x ∷ ms) name m is = by (bytes_eq x.name name) is (first_there all (suc number) ms name m)
  where
    by : (t : Bool) → cond t (Some x) (find_module ms name) ≡ Some m → (find_module ms name ≡ Some m → (k : ℕ) × (first_from (suc number) (module_names ms) name ≡ Some k)) → (k : ℕ) × (cond t (Some number) (first_from (suc number) (module_names ms) name) ≡ Some k)
    by true is more = (number, refl)
    by false is more = more is

pub number_there : (ms : List Module) (name : Text) (m : Module) → find_module ms name ≡ Some m → (k : ℕ) × (number_of ms name ≡ Some k)
number_there ms name m is = first_there ms 0 ms name m is

found_named : (ms : List Module) (name : Text) (m : Module) → find_module ms name ≡ Some m → bytes_eq m.name name ≡ true
found_named [] name m is = absurd (let f : ⊥ = cc in f)
found_named (x ∷ ms) name m is = by (bytes_eq x.name name) refl is (found_named ms name m)
  where
    by : (t : Bool) → bytes_eq x.name name ≡ t → cond t (Some x) (find_module ms name) ≡ Some m → (find_module ms name ≡ Some m → bytes_eq m.name name ≡ true) → bytes_eq m.name name ≡ true
    by true here is more = let e : x ≡ m = cc in subst (λ (y : Module). bytes_eq y.name name ≡ true) e here
    by false here is more = more is

-- the module of a number has the name
pub name_of_number : (ms : List Module) (name : Text) (k : ℕ) (m : Module) → number_of ms name ≡ Some k → slice_get ms k ≡ Some m → m.name ≡ name
name_of_number ms name k m is at = same_text m.name name (found_named ms name m (sym (module_there ms name k is) ∙ at))

some_named : (ms : List Module) (k : ℕ) (m : Module) → slice_get ms k ≡ Some m → (x : Module) × (find_module ms m.name ≡ Some x)
some_named [] k m at = absurd (let f : ⊥ = cc in f)
some_named (x ∷ ms) zero m at = let e : x ≡ m = cc in (x, ap (λ (t : Bool). cond t (Some x) (find_module ms m.name)) (ap (λ (y : Module). bytes_eq y.name m.name) e ∙ bytes_eq-self m.name))
some_named (x ∷ ms) (suc k) m at = by (bytes_eq x.name m.name) (some_named ms k m at)
  where
    by : (t : Bool) → (y : Module) × (find_module ms m.name ≡ Some y) → (y : Module) × (cond t (Some x) (find_module ms m.name) ≡ Some y)
    by true more = (x, refl)
    by false more = more

pub module_at : (ms : List Module) (k : ℕ) → k < length ms → (m : Module) × (slice_get ms k ≡ Some m)
module_at [] k less = absurd (omega (arith, less))
module_at (m ∷ ms) zero less = (m, refl)
module_at (m ∷ ms) (suc k) less = module_at ms k (omega (arith, less))

-- each module has its own number
pub number_own : (ms : List Module) (k : ℕ) (m : Module) → HaveOwnNames ms → slice_get ms k ≡ Some m → number_of ms m.name ≡ Some k
number_own ms k m own at =
    let some = some_named ms k m at in
    let there = number_there ms m.name some.0 some.1 in
    let x = module_at ms there.0 (number_within ms m.name there.0 there.1) in
    let same : there.0 ≡ k = own there.0 k x.0 m x.1 at (name_of_number ms m.name there.0 x.0 there.1 x.1) in
    there.1 ∙ ap (λ (n : ℕ). Some n) same

-- ---- instances

-- an instance of a name is one of its number
has_child : (ms : List Module) (subs : List SubInstance) (name : Text) (k : ℕ) → list_any (λ (s : SubInstance). bytes_eq s.of name) subs ≡ true → number_of ms name ≡ Some k → StandsIn (numbers_of_subs ms subs) k
has_child ms [] name k has is = absurd (true≢false (sym has))
has_child ms (s ∷ subs) name k has is = by (bytes_eq s.of name) refl has (has_child ms subs name k)
  where
    by : (t : Bool) → bytes_eq s.of name ≡ t → (t || list_any (λ (s : SubInstance). bytes_eq s.of name) subs) ≡ true → (list_any (λ (s : SubInstance). bytes_eq s.of name) subs ≡ true → number_of ms name ≡ Some k → StandsIn (numbers_of_subs ms subs) k) → StandsIn (cons_option (number_of ms s.of) (numbers_of_subs ms subs)) k
    by true here has more =
        let same : number_of ms s.of ≡ Some k = ap (number_of ms) (same_text s.of name here) ∙ is in
        subst (λ (o : Option ℕ). StandsIn (cons_option o (numbers_of_subs ms subs)) k) (sym same) (record { place = 0; at = refl })
    by false here has more = stands_behind (number_of ms s.of) (numbers_of_subs ms subs) k (more has is)

-- a child is the module of an instance
pub child_named : (ms : List Module) (subs : List SubInstance) (k : ℕ) (m : Module) → StandsIn (numbers_of_subs ms subs) k → slice_get ms k ≡ Some m → list_any (λ (s : SubInstance). bytes_eq s.of m.name) subs ≡ true
child_named ms [] k m h at = absurd (stands_none k h)
child_named ms (s ∷ subs) k m h at = by (number_of ms s.of) refl h (child_named ms subs k m)
  where
    by : (o : Option ℕ) → number_of ms s.of ≡ o → StandsIn (cons_option o (numbers_of_subs ms subs)) k → (StandsIn (numbers_of_subs ms subs) k → slice_get ms k ≡ Some m → list_any (λ (s : SubInstance). bytes_eq s.of m.name) subs ≡ true) → (bytes_eq s.of m.name || list_any (λ (s : SubInstance). bytes_eq s.of m.name) subs) ≡ true
    by None is h more = or_right (bytes_eq s.of m.name) (list_any (λ (s : SubInstance). bytes_eq s.of m.name) subs) (more h at)
    by (Some n) is h more = elim (stands_cases n (numbers_of_subs ms subs) k h) [
      | inl e ↦ (
          let named : m.name ≡ s.of = name_of_number ms s.of k m (is ∙ ap (λ (i : ℕ). Some i) e) at in
          ap (λ (t : Bool). t || list_any (λ (s : SubInstance). bytes_eq s.of m.name) subs) (ap (bytes_eq s.of) named ∙ bytes_eq-self s.of))
      | inr rest ↦ or_right (bytes_eq s.of m.name) (list_any (λ (s : SubInstance). bytes_eq s.of m.name) subs) (more rest at)
    ]

pub child_known : (ms : List Module) (subs : List SubInstance) (k : ℕ) → StandsIn (numbers_of_subs ms subs) k → (name : Text) × (number_of ms name ≡ Some k)
child_known ms [] k h = absurd (stands_none k h)
child_known ms (s ∷ subs) k h = by (number_of ms s.of) refl h (child_known ms subs k)
  where
    by : (o : Option ℕ) → number_of ms s.of ≡ o → StandsIn (cons_option o (numbers_of_subs ms subs)) k → (StandsIn (numbers_of_subs ms subs) k → (name : Text) × (number_of ms name ≡ Some k)) → (name : Text) × (number_of ms name ≡ Some k)
    by None is h more = more h
    by (Some n) is h more = elim (stands_cases n (numbers_of_subs ms subs) k h) [
      | inl e ↦ (s.of, is ∙ ap (λ (i : ℕ). Some i) e)
      | inr rest ↦ more rest
    ]

-- ---- modules below modules

pub leads_of_below : (ms : List Module) (above below : Text) → IsBelow ms above below → (i j : ℕ) → number_of ms above ≡ Some i → number_of ms below ≡ Some j → Leads (children_of ms) i j
leads_of_below ms above below (BelowWithin {m = m} at has) i j from to =
    let there : slice_get ms i ≡ Some m = module_there ms above i from ∙ at in
    Child (subst (λ (xs : List ℕ). StandsIn xs j) (sym (children_of_at ms i m there)) (has_child ms (subs_of m.items) below j has to))
leads_of_below ms above below (BelowDeeper {between = between} {m = m} at has more) i j from to =
    let there : slice_get ms i ≡ Some m = module_there ms above i from ∙ at in
    let k = between_number more in
    Deeper (subst (λ (xs : List ℕ). StandsIn xs k.0) (sym (children_of_at ms i m there)) (has_child ms (subs_of m.items) between k.0 has k.1)) (leads_of_below ms between below more k.0 j k.1 to)
  where
    between_number : {between : Text} → IsBelow ms between below → (k : ℕ) × (number_of ms between ≡ Some k)
    between_number {between} (BelowWithin {m = x} at has) = number_there ms between x at
    between_number {between} (BelowDeeper {m = x} at has more) = number_there ms between x at

pub below_of_leads : (ms : List Module) (i j : ℕ) → HaveOwnNames ms → Leads (children_of ms) i j → (m x : Module) → slice_get ms i ≡ Some m → slice_get ms j ≡ Some x → IsBelow ms m.name x.name
below_of_leads ms i j own (Child h) m x at to =
    let found : find_module ms m.name ≡ Some m = sym (module_there ms m.name i (number_own ms i m own at)) ∙ at in
    BelowWithin found (child_named ms (subs_of m.items) j x (subst (λ (xs : List ℕ). StandsIn xs j) (children_of_at ms i m at) h) to)
below_of_leads ms i j own (Deeper {between = k} h more) m x at to =
    let found : find_module ms m.name ≡ Some m = sym (module_there ms m.name i (number_own ms i m own at)) ∙ at in
    let below : StandsIn (numbers_of_subs ms (subs_of m.items)) k = subst (λ (xs : List ℕ). StandsIn xs k) (children_of_at ms i m at) h in
    let known = child_known ms (subs_of m.items) k below in
    let y = module_at ms k (number_within ms known.0 k known.1) in
    BelowDeeper found (child_named ms (subs_of m.items) k y.0 below y.1) (below_of_leads ms k j own more y.0 x y.1 to)

-- a module that does not lead to itself is not below itself
not_in_itself : (ms : List Module) (k : ℕ) (m : Module) → HaveOwnNames ms → slice_get ms k ≡ Some m → (Leads (children_of ms) k k → ⊥) → IsBelow ms m.name m.name → ⊥
not_in_itself ms k m own at none below = let is = number_own ms k m own at in none (leads_of_below ms m.name m.name below k k is is)

pub none_in_itself : (ms : List Module) → HaveOwnNames ms → NoCircle (children_of ms) → NoneInItself ms ms
none_in_itself ms own none = λ k d less. not_in_itself ms k (get_or ms k d) own (slice_get-get_or ms k d less) (none k)

get_taken : (ms : List Module) (n k : ℕ) (d : Module) → k < length (take n ms) → (slice_get ms k ≡ Some (get_or (take n ms) k d)) × (k < n)
get_taken ms zero k d less = absurd (omega (arith, less))
get_taken [] (suc n) k d less = absurd (omega (arith, less))
get_taken (m ∷ ms) (suc n) zero d less = (refl, omega arith)
get_taken (m ∷ ms) (suc n) (suc k) d less = let r = get_taken ms n k d (omega (arith, less)) in (r.0, (let l = r.1 in omega arith))

pub first_in_itself : (ms : List Module) (first : ℕ) (m : Module) → HaveOwnNames ms → IsFirstOnCircle (children_of ms) first → slice_get ms first ≡ Some m → IsFirstInItself ms m.name
first_in_itself ms first m own is at = record {
  front = take first ms;
  m = m;
  back = drop (first + 1) ms;
  split = sym (take-append-drop first ms) ∙ ap (λ (xs : List Module). take first ms ++ xs) (drop_at ms first m at);
  named = refl;
  below = below_of_leads ms first first own is.leads m m at at;
  first = λ k d less. (let t = get_taken ms first k d less in not_in_itself ms k (get_or (take first ms) k d) own t.0 (is.before k t.1));
}

-- ---- tops

-- whether an instance of a module's name is among these, and whether one of its number
same_instance : (ms : List Module) (subs : List SubInstance) (k : ℕ) (m : Module) → HaveOwnNames ms → slice_get ms k ≡ Some m → list_any (λ (s : SubInstance). bytes_eq s.of m.name) subs ≡ list_any (λ c. c == k) (numbers_of_subs ms subs)
same_instance ms [] k m own at = refl
same_instance ms (s ∷ subs) k m own at = by (number_of ms s.of) refl (same_instance ms subs k m own at)
  where
    here : number_of ms m.name ≡ Some k
    here = number_own ms k m own at

    apart : (c : ℕ) → (c ≡ k → ⊥) → (c == k) ≡ false
    apart c ne = grind (arith, nat_tests)

    equal : (c : ℕ) → number_of ms s.of ≡ Some c → (c ≡ k) ⊎ (c ≡ k → ⊥) → bytes_eq s.of m.name ≡ (c == k)
    equal c is h = elim h [
      | inl e ↦ (
          let named : m.name ≡ s.of = name_of_number ms s.of k m (is ∙ ap (λ (i : ℕ). Some i) e) at in
          ap (bytes_eq s.of) named ∙ bytes_eq-self s.of ∙ sym (ap (λ (i : ℕ). i == k) e ∙ same_number k))
      | inr ne ↦ differ s.of m.name (λ same. (let f : Some c ≡ Some k = sym is ∙ ap (number_of ms) same ∙ here in let g : c ≡ k = cc in ne g)) ∙ sym (apart c ne)
    ]

    by : (o : Option ℕ) → number_of ms s.of ≡ o → list_any (λ (s : SubInstance). bytes_eq s.of m.name) subs ≡ list_any (λ c. c == k) (numbers_of_subs ms subs) → (bytes_eq s.of m.name || list_any (λ (s : SubInstance). bytes_eq s.of m.name) subs) ≡ list_any (λ c. c == k) (cons_option o (numbers_of_subs ms subs))
    by None is more =
        let no : bytes_eq s.of m.name ≡ false = differ s.of m.name (λ same. (let f : None ≡ Some k = sym is ∙ ap (number_of ms) same ∙ here in let g : ⊥ = cc in g)) in
        ap (λ (t : Bool). t || list_any (λ (s : SubInstance). bytes_eq s.of m.name) subs) no ∙ more
    by (Some c) is more = ap (λ (t : Bool). t || list_any (λ (s : SubInstance). bytes_eq s.of m.name) subs) (equal c is (cases_eq c k)) ∙ ap (λ (t : Bool). (c == k) || t) more

same_any : (ms some : List Module) (k : ℕ) (m : Module) → HaveOwnNames ms → slice_get ms k ≡ Some m → list_any (λ other. has_instance_of other m.name) some ≡ is_instantiated (map (λ (x : Module). numbers_of_subs ms (subs_of x.items)) some) k
same_any ms [] k m own at = refl
same_any ms (x ∷ some) k m own at = rw (same_instance ms (subs_of x.items) k m own at, same_any ms some k m own at) refl

-- the modules that pass a test, by their numbers
pass_same : (all : List Module) (p : Module → Bool) (q : ℕ → Bool) (from : ℕ) (ms : List Module) → ((k : ℕ) → slice_get all (from + k) ≡ slice_get ms k) → ((k : ℕ) (m : Module) → slice_get ms k ≡ Some m → p m ≡ q (from + k)) →
    map (slice_get all) (filter q (range_with_len from (length ms))) ≡ map Some (filter p ms)
pass_same all p q from [] there same = refl
pass_same all p q from (m ∷ ms) there same =
    let start : from + 0 ≡ from = omega arith in
    let here : p m ≡ q from = same 0 m refl ∙ ap q start in
    let at : slice_get all from ≡ Some m = ap (slice_get all) (sym start) ∙ there 0 in
    by (p m) here at (pass_same all p q (from + 1) ms
    (λ k. (let next : from + 1 + k ≡ from + suc k = omega arith in ap (slice_get all) next ∙ there (suc k)))
    (λ k x is. (let next : from + suc k ≡ from + 1 + k = omega arith in same (suc k) x is ∙ ap q next)))
  where
    by : (t : Bool) → t ≡ q from → slice_get all from ≡ Some m → map (slice_get all) (filter q (range_with_len (from + 1) (length ms))) ≡ map Some (filter p ms) →
        map (slice_get all) (cond (q from) (from ∷ filter q (range_with_len (from + 1) (length ms))) (filter q (range_with_len (from + 1) (length ms)))) ≡ map Some (cond t (m ∷ filter p ms) (filter p ms))
    by true is at more = rw (← is) (ap (λ (o : Option Module). o ∷ map (slice_get all) (filter q (range_with_len (from + 1) (length ms)))) at ∙ ap (λ (xs : List (Option Module)). Some m ∷ xs) more)
    by false is at more = rw (← is) more

pub tops_same : (ms : List Module) → HaveOwnNames ms → map (slice_get ms) (top_numbers (children_of ms)) ≡ map Some (tops ms)
tops_same ms own =
    let g : Graph = children_of ms in
    ap (λ (n : ℕ). map (slice_get ms) (filter (λ k. not (is_instantiated g k)) (range_with_len 0 n))) (graph_count ms)
    ∙ pass_same ms (λ (m : Module). not (list_any (λ other. has_instance_of other m.name) ms)) (λ k. not (is_instantiated g k)) 0 ms
    (λ k. (let e : 0 + k ≡ k = omega arith in ap (slice_get ms) e))
    (λ k m at. (let e : k ≡ 0 + k = omega arith in ap not (same_any ms ms k m own at) ∙ ap (λ i. not (is_instantiated g i)) e))

map_length : {X Y : Type 0} (f : X → Y) (xs : List X) → length (map f xs) ≡ length xs
map_length f [] = refl
map_length f (x ∷ xs) = ap suc (map_length f xs)

pub tops_length : (ms : List Module) → HaveOwnNames ms → length (top_numbers (children_of ms)) ≡ length (tops ms)
tops_length ms own = sym (map_length (slice_get ms) (top_numbers (children_of ms))) ∙ ap (λ (xs : List (Option Module)). length xs) (tops_same ms own) ∙ map_length Some (tops ms)

one_top : (o : Option Module) (xs : List Module) (m : Module) → o ≡ Some m → o ∷ [] ≡ map Some xs → xs ≡ m ∷ []
one_top o [] m is e = absurd (let f : ⊥ = cc in f)
one_top o (x ∷ []) m is e = let f : Some x ≡ Some m = (let g : o ≡ Some x = cc in sym g ∙ is) in let g : x ≡ m = cc in ap (λ (y : Module). y ∷ []) g
one_top o (x ∷ y ∷ xs) m is e = absurd (let f : ⊥ = cc in f)

pub top_is : (ms : List Module) (k : ℕ) (m : Module) → HaveOwnNames ms → IsTop (children_of ms) k → slice_get ms k ≡ Some m → tops ms ≡ m ∷ []
top_is ms k m own is at = one_top (slice_get ms k) (tops ms) m at (sym (ap (map (slice_get ms)) is) ∙ tops_same ms own)
