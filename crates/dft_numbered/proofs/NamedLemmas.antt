-- What has a name, among others, by the number of the name.
use Rattle.std.proofs.Common.{ℕ, suc, ◌+◌, ◌<◌, ◌≤◌, ◌≡◌, Bool, true, false, cond, List, [], ◌∷◌, map, get_or, length, find, Some, option_and_then, slice_get, refl, sym, ap, arith, ◌∙◌}
use Rattle.std.specs.Str.{bytes_eq}
use Rattle.std.proofs.lemmas.List.{get_or-map, length-map}
use Rattle.dft_base.specs.Lexing.{Text}
use Rattle.dft_numbered.specs.Numbers.{Entry, Finds, first_from, noted}
use Rattle.dft_numbered.proofs.NumberLemmas.{FindsSoFar, noted_next, noted_all}

-- ---- the first of a name

first_at : {X : Type 0} (name_of : X → Text) (all : List X) (place : ℕ) (xs : List X) (name : Text) → ((k : ℕ) → slice_get all (place + k) ≡ slice_get xs k) → option_and_then (slice_get all) (first_from place (map name_of xs) name) ≡ find (λ x. bytes_eq (name_of x) name) xs
first_at name_of all place [] name same = refl
first_at {X = X} name_of all place (x ∷ xs) name same =
    by (bytes_eq (name_of x) name) (first_at name_of all (suc place) xs name (λ k. (let next : suc place + k ≡ place + suc k = omega arith in ap (slice_get all) next ∙ same (suc k))))
  where
    by : (t : Bool) → option_and_then (slice_get all) (first_from (suc place) (map name_of xs) name) ≡ find (λ (y : X). bytes_eq (name_of y) name) xs →
        option_and_then (slice_get all) (cond t (Some place) (first_from (suc place) (map name_of xs) name)) ≡ cond t (Some x) (find (λ (y : X). bytes_eq (name_of y) name) xs)
    by true later = (let here : place ≡ place + 0 = omega arith in ap (slice_get all) here ∙ same 0)
    by false later = later

-- what stands at the number of a name is the first that has it
pub named_at : {X : Type 0} (name_of : X → Text) (xs : List X) (name : Text) → option_and_then (slice_get xs) (first_from 0 (map name_of xs) name) ≡ find (λ x. bytes_eq (name_of x) name) xs
named_at name_of xs name = first_at name_of xs 0 xs name (λ k. (let same : 0 + k ≡ k = omega arith in ap (slice_get xs) same))

first_within : (number : ℕ) (names : List Text) (name : Text) (k : ℕ) → first_from number names name ≡ Some k → k < number + length names
first_within number [] name k is = absurd (let f : ⊥ = cc in f)
first_within number (n ∷ names) name k is = by (bytes_eq n name) is (first_within (suc number) names name k)
  where
    by : (t : Bool) → cond t (Some number) (first_from (suc number) names name) ≡ Some k → (first_from (suc number) names name ≡ Some k → k < suc number + length names) → k < number + suc (length names)
    by true is more = let e : number ≡ k = cc in omega arith
    by false is more = let r = more is in omega arith

-- the number of a name is that of one of them
pub named_within : {X : Type 0} (name_of : X → Text) (xs : List X) (name : Text) (k : ℕ) → first_from 0 (map name_of xs) name ≡ Some k → k < length xs
named_within name_of xs name k is =
    let within = first_within 0 (map name_of xs) name k is in
    let size = length-map xs name_of in
    omega arith

-- ---- numbers that are given in turn

pub named_next : {X : Type 0} (name_of : X → Text) (xs : List X) (x : X) (own : Text) (number : ℕ) (old new : List Entry) → number < length xs → x ≡ get_or xs number x → own ≡ name_of x → new ≡ noted old own number →
    FindsSoFar old number (map name_of xs) → FindsSoFar new (number + 1) (map name_of xs)
named_next name_of xs x own number old new less is named more before =
    let size = length-map xs name_of in
    let at : get_or (map name_of xs) number own ≡ name_of x = get_or-map name_of xs number x own less ∙ ap name_of (sym is) in
    noted_next (map name_of xs) own own number old new (omega arith) (named ∙ sym at) more before

pub named_all : {X : Type 0} (name_of : X → Text) (xs : List X) (entries : List Entry) (number : ℕ) → length xs ≤ number → FindsSoFar entries number (map name_of xs) → Finds entries (map name_of xs)
named_all name_of xs entries number past before = let size = length-map xs name_of in noted_all entries (map name_of xs) number (omega arith) before
