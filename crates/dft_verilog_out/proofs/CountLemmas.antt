-- How often a name stands among others.
use Rattle.std.proofs.Common.{◌≡◌, ℕ, zero, suc, ◌+◌, ◌≤◌, Bool, true, false, cond, List, [], ◌∷◌, ◌++◌, map, Option, Some, None, find, refl, ap, arith, slice_get, ◌⊎◌, inl, inr}
use Rattle.std.specs.Prelude.{◌||◌}
use Rattle.std.specs.List.{filter_map, cons_option}
use Rattle.std.specs.Option.{option_and_then}
use Rattle.std.specs.Str.{bytes_eq}
use Rattle.dft_base.specs.Lexing.{Text}
use Rattle.dft_base.proofs.TextLemmas.{same_text, bytes_eq-self}
use Rattle.dft_cells.specs.WellFormed.{has_name}
use Rattle.dft_netlist.specs.declared.named.Named.{Named}
use Rattle.dft_netlist.specs.declared.named.Named.TheVariants as named
use Rattle.dft_netlist.specs.Netlist.{Netlist}
use Rattle.dft_netlist.specs.Names.{NamesDiffer, names_taken, vector_name, instance_name}
use Rattle.dft_netlist_text.specs.Modules.{TakenName}

abbrev pub one_if : Bool → ℕ
one_if b = cond b 1 0

-- how often the word stands in the list
abbrev pub times : Text → List Text → ℕ
times word [] = 0
times word (x ∷ xs) = one_if (bytes_eq x word) + times word xs

-- no word stands twice
abbrev pub Once : List Text → Type 0
Once xs = (word : Text) → times word xs ≤ 1

pub times-append : (word : Text) (xs ys : List Text) → times word (xs ++ ys) ≡ times word xs + times word ys
times-append word [] ys = omega arith
times-append word (x ∷ xs) ys = let ih = times-append word xs ys in omega arith

pub times-head : (x : Text) (xs : List Text) → times x (x ∷ xs) ≡ 1 + times x xs
times-head x xs = rw (bytes_eq-self x) refl

-- ---- names in lists

none_by : (b r : Bool) (n m : ℕ) → one_if b + n ≡ 0 → (n ≡ 0 → r ≡ false) → (b || r) ≡ false
none_by true r n m h ih = absurd (omega arith)
none_by false r n m h ih = ih (omega arith)

pub has_name-none : (xs : List Text) (word : Text) → times word xs ≡ 0 → has_name xs word ≡ false
has_name-none [] word h = refl
has_name-none (x ∷ xs) word h = none_by (bytes_eq x word) (has_name xs word) (times word xs) 0 h (has_name-none xs word)

-- the entry of a name
abbrev pub look : List TakenName → Text → Option TakenName
look es word = find (λ e. bytes_eq e.name word) es

abbrev pub words : List TakenName → List Text
words es = map (λ (e : TakenName). e.name) es

look_none_by : (b : Bool) (e : TakenName) (r : Option TakenName) (n : ℕ) → one_if b + n ≡ 0 → (n ≡ 0 → r ≡ None) → cond b (Some e) r ≡ None
look_none_by true e r n h ih = absurd (omega arith)
look_none_by false e r n h ih = ih (omega arith)

pub look-none : (es : List TakenName) (word : Text) → times word (words es) ≡ 0 → look es word ≡ None
look-none [] word h = refl
look-none (e ∷ es) word h = look_none_by (bytes_eq e.name word) e (look es word) (times word (words es)) h (look-none es word)

kept_by : (b : Bool) (e x : TakenName) (r r' : Option TakenName) → (r ≡ Some x → r' ≡ Some x) → cond b (Some e) r ≡ Some x → cond b (Some e) r' ≡ Some x
kept_by true e x r r' ih h = h
kept_by false e x r r' ih h = ih h

-- what is found stays found
pub look-kept : (es more : List TakenName) (word : Text) (x : TakenName) → look es word ≡ Some x → look (es ++ more) word ≡ Some x
look-kept [] more word x h = absurd (cc)
look-kept (e ∷ es) more word x h = kept_by (bytes_eq e.name word) e x (look es word) (look (es ++ more) word) (look-kept es more word x) h

new_by : (b : Bool) (e x : TakenName) (r r' : Option TakenName) (n : ℕ) → one_if b + n ≡ 0 → (n ≡ 0 → r' ≡ Some x) → cond b (Some e) r' ≡ Some x
new_by true e x r r' n h ih = absurd (omega arith)
new_by false e x r r' n h ih = ih (omega arith)

-- a new name is found behind the others
pub look-new : (es more : List TakenName) (x : TakenName) → times x.name (words es) ≡ 0 → look (es ++ x ∷ more) x.name ≡ Some x
look-new [] more x h = rw (bytes_eq-self x.name) refl
look-new (e ∷ es) more x h = new_by (bytes_eq e.name x.name) e x None (look (es ++ x ∷ more) x.name) (times x.name (words es)) h (look-new es more x)

-- ---- names that stand once

pub times-zero : (xs : List Text) (word : Text) → ((k : ℕ) → slice_get xs k ≡ Some word → ⊥) → times word xs ≡ 0
times-zero [] word h = refl
times-zero (x ∷ xs) word h = by (bytes_eq x word) refl (times-zero xs word (λ k at. h (suc k) at))
  where
    by : (b : Bool) → bytes_eq x word ≡ b → times word xs ≡ 0 → one_if b + times word xs ≡ 0
    by true is rest = absurd (h 0 (ap Some (same_text x word is)))
    by false is rest = omega arith

pub times-one : (xs : List Text) (word : Text) → ((k j : ℕ) → slice_get xs k ≡ Some word → slice_get xs j ≡ Some word → k ≡ j) → times word xs ≤ 1
times-one [] word h = omega arith
times-one (x ∷ xs) word h = by (bytes_eq x word) refl (times-one xs word (λ k j at also. let e : suc k ≡ suc j = h (suc k) (suc j) at also in omega arith))
  where
    by : (b : Bool) → bytes_eq x word ≡ b → times word xs ≤ 1 → one_if b + times word xs ≤ 1
    by true is rest =
        let none : times word xs ≡ 0 = times-zero xs word (λ k at. let e : 0 ≡ suc k = h 0 (suc k) (ap Some (same_text x word is)) at in absurd (omega arith)) in omega arith
    by false is rest = omega arith

pub times-where : (xs : List Text) (word : Text) → 1 ≤ times word xs → (k : ℕ) × (slice_get xs k ≡ Some word)
times-where [] word h = absurd (omega arith)
times-where (x ∷ xs) word h = by (bytes_eq x word) refl h (times-where xs word)
  where
    by : (b : Bool) → bytes_eq x word ≡ b → 1 ≤ one_if b + times word xs → (1 ≤ times word xs → (k : ℕ) × (slice_get xs k ≡ Some word)) → (k : ℕ) × (slice_get (x ∷ xs) k ≡ Some word)
    by true is some later = (0, ap Some (same_text x word is))
    by false is some later = let r = later (omega arith) in (suc r.0, r.1)

-- the same for names that some parts have
module _ {X : Type 0} (f : X → Option Text) where
  cons_zero : (o : Option Text) (names : List Text) (word : Text) → (o ≡ Some word → ⊥) → times word names ≡ 0 → times word (cons_option o names) ≡ 0
  cons_zero None names word h rest = rest
  cons_zero (Some x) names word h rest = by (bytes_eq x word) refl
    where
      by : (b : Bool) → bytes_eq x word ≡ b → one_if b + times word names ≡ 0
      by true is = absurd (h (ap Some (same_text x word is)))
      by false is = omega arith

  pub shown-zero : (xs : List X) (word : Text) → ((k : ℕ) → option_and_then f (slice_get xs k) ≡ Some word → ⊥) → times word (filter_map f xs) ≡ 0
  shown-zero [] word h = refl
  shown-zero (x ∷ xs) word h = cons_zero (f x) (filter_map f xs) word (h 0) (shown-zero xs word (λ k at. h (suc k) at))

  cons_one : (o : Option Text) (names : List Text) (word : Text) → (o ≡ Some word → times word names ≡ 0) → times word names ≤ 1 → times word (cons_option o names) ≤ 1
  cons_one None names word h rest = rest
  cons_one (Some x) names word h rest = by (bytes_eq x word) refl
    where
      by : (b : Bool) → bytes_eq x word ≡ b → one_if b + times word names ≤ 1
      by true is = let none = h (ap Some (same_text x word is)) in omega arith
      by false is = omega arith

  pub shown-one : (xs : List X) (word : Text) → ((k j : ℕ) → option_and_then f (slice_get xs k) ≡ Some word → option_and_then f (slice_get xs j) ≡ Some word → k ≡ j) → times word (filter_map f xs) ≤ 1
  shown-one [] word h = omega arith
  shown-one (x ∷ xs) word h =
      cons_one (f x) (filter_map f xs) word
      (λ here. shown-zero xs word (λ k at. let e : 0 ≡ suc k = h 0 (suc k) here at in absurd (omega arith)))
      (shown-one xs word (λ k j at also. let e : suc k ≡ suc j = h (suc k) (suc j) at also in omega arith))

  cons_where : (o : Option Text) (names : List Text) (word : Text) → 1 ≤ times word (cons_option o names) → (o ≡ Some word) ⊎ (1 ≤ times word names)
  cons_where None names word h = inr h
  cons_where (Some x) names word h = by (bytes_eq x word) refl h
    where
      by : (b : Bool) → bytes_eq x word ≡ b → 1 ≤ one_if b + times word names → (Some x ≡ Some word) ⊎ (1 ≤ times word names)
      by true is some = inl (ap Some (same_text x word is))
      by false is some = inr (omega arith)

  pub shown-where : (xs : List X) (word : Text) → 1 ≤ times word (filter_map f xs) → (k : ℕ) × (option_and_then f (slice_get xs k) ≡ Some word)
  shown-where [] word h = absurd (omega arith)
  shown-where (x ∷ xs) word h = elim (cons_where (f x) (filter_map f xs) word h) [
    | inl here ↦ (0, here)
    | inr later ↦ (let r = shown-where xs word later in (suc r.0, r.1))
  ]

-- ---- the names of a netlist

pub none_or_some : (n : ℕ) → (n ≡ 0) ⊎ (1 ≤ n)
none_or_some zero = inl refl
none_or_some (suc n) = inr (omega arith)

apart_net_vector : (n : Netlist) (word : Text) → NamesDiffer n → (times word n.nets ≡ 0) ⊎ (times word (filter_map vector_name n.ports) ≡ 0)
apart_net_vector n word differ = elim (none_or_some (times word n.nets)) [
  | inl none ↦ inl none
  | inr some ↦ (
      let net = times-where n.nets word some in
      inr (shown-zero vector_name n.ports word (λ k at.
      let e : named.Net (record { 0 = net.0 }) ≡ named.Vector (record { 0 = k }) = differ word (named.Net (record { 0 = net.0 })) (named.Vector (record { 0 = k })) net.1 at in let f : ⊥ = cc in f)))
]

apart_net_instance : (n : Netlist) (word : Text) → NamesDiffer n → (times word n.nets ≡ 0) ⊎ (times word (filter_map instance_name n.instances) ≡ 0)
apart_net_instance n word differ = elim (none_or_some (times word n.nets)) [
  | inl none ↦ inl none
  | inr some ↦ (
      let net = times-where n.nets word some in
      inr (shown-zero instance_name n.instances word (λ k at.
      let e : named.Net (record { 0 = net.0 }) ≡ named.Instance (record { 0 = k }) = differ word (named.Net (record { 0 = net.0 })) (named.Instance (record { 0 = k })) net.1 at in let f : ⊥ = cc in f)))
]

apart_vector_instance : (n : Netlist) (word : Text) → NamesDiffer n → (times word (filter_map vector_name n.ports) ≡ 0) ⊎ (times word (filter_map instance_name n.instances) ≡ 0)
apart_vector_instance n word differ = elim (none_or_some (times word (filter_map vector_name n.ports))) [
  | inl none ↦ inl none
  | inr some ↦ (
      let port = shown-where vector_name n.ports word some in
      inr (shown-zero instance_name n.instances word (λ k at.
      let e : named.Vector (record { 0 = port.0 }) ≡ named.Instance (record { 0 = k }) = differ word (named.Vector (record { 0 = port.0 })) (named.Instance (record { 0 = k })) port.1 at in let f : ⊥ = cc in f)))
]

at_most_one : (a b c : ℕ) → a ≤ 1 → b ≤ 1 → c ≤ 1 → (a ≡ 0) ⊎ (b ≡ 0) → (a ≡ 0) ⊎ (c ≡ 0) → (b ≡ 0) ⊎ (c ≡ 0) → a + (b + c) ≤ 1
at_most_one a b c x y z p q r = elim p [
  | inl pa ↦ elim r [ inl rb ↦ omega arith | inr rc ↦ omega arith ]
  | inr pb ↦ elim q [ inl qa ↦ omega arith | inr qc ↦ omega arith ]
]

-- the names that are taken differ
pub names_once : (n : Netlist) → NamesDiffer n → Once (names_taken n)
names_once n differ word =
    let nets : times word n.nets ≤ 1 = times-one n.nets word (λ k j at also. ap net_number (differ word (named.Net (record { 0 = k })) (named.Net (record { 0 = j })) at also)) in
    let vectors : times word (filter_map vector_name n.ports) ≤ 1 =
    shown-one vector_name n.ports word (λ k j at also. ap net_number (differ word (named.Vector (record { 0 = k })) (named.Vector (record { 0 = j })) at also)) in
    let owns : times word (filter_map instance_name n.instances) ≤ 1 =
    shown-one instance_name n.instances word (λ k j at also. ap net_number (differ word (named.Instance (record { 0 = k })) (named.Instance (record { 0 = j })) at also)) in
    let whole = at_most_one (times word n.nets) (times word (filter_map vector_name n.ports)) (times word (filter_map instance_name n.instances)) nets vectors owns
    (apart_net_vector n word differ) (apart_net_instance n word differ) (apart_vector_instance n word differ) in
    let first = times-append word n.nets (filter_map vector_name n.ports ++ filter_map instance_name n.instances) in
    let second = times-append word (filter_map vector_name n.ports) (filter_map instance_name n.instances) in
    omega arith
  where
    net_number : Named → ℕ
    net_number (named.Net net) = net.0
    net_number (named.Vector port) = port.0
    net_number (named.Instance i) = i.0
