-- How often a name stands among those of a netlist. Numbers of lists add up, so the order in which things are added does not matter.
use Rattle.std.proofs.Common.{ℕ, zero, suc, ◌+◌, ◌≡◌, ◌≤◌, Bool, true, false, ◌||◌, List, ◌∷◌, ◌++◌, Option, None, Some, slice_get, refl, sym, ap, arith, ◌∙◌, []}
use Rattle.std.specs.List.{filter_map, cons_option}
use Rattle.std.specs.Option.{option_and_then}
use Rattle.std.specs.Str.{bytes_eq}
use Rattle.std.proofs.lemmas.List.Elements.{filter_map-append}
use Rattle.dft_base.specs.Lexing.{Text}
use Rattle.dft_base.proofs.TextLemmas.{same_text, bytes_eq-self}
use Rattle.dft_cells.specs.WellFormed.{has_name}
use Rattle.dft_netlist.specs.declared.named.Named.{Named}
use Rattle.dft_netlist.specs.declared.named.Named.TheVariants.{Net, Vector, Instance}
use Rattle.dft_netlist.specs.Netlist.{Netlist}
use Rattle.dft_netlist.specs.Names.{NamesDiffer, names_taken, vector_name, instance_name}

abbrev pub as_count : Bool → ℕ
as_count true = 1
as_count false = 0

-- how often a name stands in a list
abbrev pub times_named : Text → List Text → ℕ
times_named q [] = 0
times_named q (x ∷ xs) = as_count (bytes_eq x q) + times_named q xs

pub named-append : (q : Text) (xs ys : List Text) → times_named q (xs ++ ys) ≡ times_named q xs + times_named q ys
named-append q [] ys = omega arith
named-append q (x ∷ xs) ys = omega (arith, named-append q xs ys)

pub one_named : (b : Bool) → as_count b ≤ 1
one_named true = omega arith
one_named false = omega arith

has_none : (b c : Bool) (m : ℕ) → as_count b + m ≡ 0 → (m ≡ 0 → c ≡ false) → (b || c) ≡ false
has_none true c m e more = absurd (omega (arith, e))
has_none false c m e more = more (omega (arith, e))

-- a name that stands there at no time is none of them
pub never_has : (q : Text) (xs : List Text) → times_named q xs ≡ 0 → has_name xs q ≡ false
never_has q [] e = refl
never_has q (x ∷ xs) e = has_none (bytes_eq x q) (has_name xs q) (times_named q xs) e (never_has q xs)

none_has : (b c : Bool) (m : ℕ) → (b || c) ≡ false → (c ≡ false → m ≡ 0) → as_count b + m ≡ 0
none_has true c m e more = absurd cc
none_has false c m e more = omega (arith, more e)

pub has_never : (q : Text) (xs : List Text) → has_name xs q ≡ false → times_named q xs ≡ 0
has_never q [] e = refl
has_never q (x ∷ xs) e = none_has (bytes_eq x q) (has_name xs q) (times_named q xs) e (has_never q xs)

pub named_here : (q : Text) (xs : List Text) → times_named q (q ∷ xs) ≡ 1 + times_named q xs
named_here q xs = ap (λ b. as_count b + times_named q xs) (bytes_eq-self q)

-- ---- names of a netlist

pub taken_times : (q : Text) (n : Netlist) → times_named q (names_taken n) ≡ times_named q n.nets + (times_named q (filter_map vector_name n.ports) + times_named q (filter_map instance_name n.instances))
taken_times q n = omega (
  arith,
  named-append q n.nets (filter_map vector_name n.ports ++ filter_map instance_name n.instances),
  named-append q (filter_map vector_name n.ports) (filter_map instance_name n.instances),
)

module _ {X : Type 0} (f : X → Option Text) where
  pub shown_append : (q : Text) (xs ys : List X) → times_named q (filter_map f (xs ++ ys)) ≡ times_named q (filter_map f xs) + times_named q (filter_map f ys)
  shown_append q xs ys = ap (times_named q) (filter_map-append f xs ys) ∙ named-append q (filter_map f xs) (filter_map f ys)

  where_by : (q : Text) (o : Option Text) (names : List Text) (xs : List X) (x : X) → f x ≡ o → (1 ≤ times_named q names → (k : ℕ) × (option_and_then f (slice_get xs k) ≡ Some q)) → 1 ≤ times_named q (cons_option o names) →
      (k : ℕ) × (option_and_then f (slice_get (x ∷ xs) k) ≡ Some q)
  where_by q None names xs x is more e = let it = more e in (suc it.0, it.1)
  where_by q (Some y) names xs x is more e = by (bytes_eq y q) refl
    where
      by : (b : Bool) → bytes_eq y q ≡ b → (k : ℕ) × (option_and_then f (slice_get (x ∷ xs) k) ≡ Some q)
      by true same = (0, is ∙ ap Some (same_text y q same))
      by false other = (let it = more (omega (arith, e, ap as_count other)) in (suc it.0, it.1))

  -- where a name stands there, an item shows it
  pub shown_where : (q : Text) (xs : List X) → 1 ≤ times_named q (filter_map f xs) → (k : ℕ) × (option_and_then f (slice_get xs k) ≡ Some q)
  shown_where q [] e = absurd (omega (arith, e))
  shown_where q (x ∷ xs) e = where_by q (f x) (filter_map f xs) xs x refl (shown_where q xs) e

  once_by : (q : Text) (o : Option Text) (names : List Text) (xs : List X) (x : X) → f x ≡ o → (1 ≤ times_named q names → (k : ℕ) × (option_and_then f (slice_get xs k) ≡ Some q)) → times_named q names ≤ 1 →
      ((k : ℕ) → f x ≡ Some q → option_and_then f (slice_get xs k) ≡ Some q → ⊥) → times_named q (cons_option o names) ≤ 1
  once_by q None names xs x is more once apart = once
  once_by q (Some y) names xs x is more once apart = by (bytes_eq y q) refl (times_named q names) refl
    where
      by : (b : Bool) → bytes_eq y q ≡ b → (m : ℕ) → times_named q names ≡ m → as_count (bytes_eq y q) + times_named q names ≤ 1
      by true same zero none = omega (arith, none, one_named (bytes_eq y q))
      by true same (suc m) some = (let it = more (omega (arith, some)) in absurd (apart it.0 (is ∙ ap Some (same_text y q same)) it.1))
      by false other m e = omega (arith, once, ap as_count other)

  -- where no two items show a name it stands there once at most
  pub shown_once : (q : Text) (xs : List X) → ((i j : ℕ) → option_and_then f (slice_get xs i) ≡ Some q → option_and_then f (slice_get xs j) ≡ Some q → i ≡ j) → times_named q (filter_map f xs) ≤ 1
  shown_once q [] differ = omega arith
  shown_once q (x ∷ xs) differ =
      once_by q (f x) (filter_map f xs) xs x refl (shown_where q xs)
      (shown_once q xs (λ i j a b. let e : suc i ≡ suc j = differ (suc i) (suc j) a b in omega (arith, e)))
      (λ k a b. let e : 0 ≡ suc k = differ 0 (suc k) a b in omega (arith, e))

all_shown : (xs : List Text) → filter_map (λ x. Some x) xs ≡ xs
all_shown [] = refl
all_shown (x ∷ xs) = ap (λ ys. x ∷ ys) (all_shown xs)

some_itself : (o : Option Text) → option_and_then (λ x. Some x) o ≡ o
some_itself None = refl
some_itself (Some x) = refl

pub net_where : (q : Text) (xs : List Text) → 1 ≤ times_named q xs → (k : ℕ) × (slice_get xs k ≡ Some q)
net_where q xs e = let it = shown_where (λ x. Some x) q xs (omega (arith, e, ap (times_named q) (all_shown xs))) in (it.0, sym (some_itself (slice_get xs it.0)) ∙ it.1)

net_once : (q : Text) (xs : List Text) → ((i j : ℕ) → slice_get xs i ≡ Some q → slice_get xs j ≡ Some q → i ≡ j) → times_named q xs ≤ 1
net_once q xs differ =
    omega (arith, ap (times_named q) (all_shown xs), shown_once (λ x. Some x) q xs (λ i j a b. differ i j (sym (some_itself (slice_get xs i)) ∙ a) (sym (some_itself (slice_get xs j)) ∙ b)))

-- the number that a name stands for
abbrev number_in : Named → ℕ
number_in (Net net) = net.0
number_in (Vector port) = port.0
number_in (Instance instance) = instance.0

net_vector : (i j : ℕ) → Net (record { 0 = i }) ≡ Vector (record { 0 = j }) → ⊥
net_vector i j e = cc

net_instance : (i j : ℕ) → Net (record { 0 = i }) ≡ Instance (record { 0 = j }) → ⊥
net_instance i j e = cc

vector_instance : (i j : ℕ) → Vector (record { 0 = i }) ≡ Instance (record { 0 = j }) → ⊥
vector_instance i j e = cc

sum_of_three : (a b c : ℕ) → a ≤ 1 → b ≤ 1 → c ≤ 1 → (1 ≤ a → 1 ≤ b → ⊥) → (1 ≤ a → 1 ≤ c → ⊥) → (1 ≤ b → 1 ≤ c → ⊥) → a + (b + c) ≤ 1
sum_of_three zero zero c ha hb hc ab ac bc = omega (arith, hc)
sum_of_three zero (suc b) zero ha hb hc ab ac bc = omega (arith, hb)
sum_of_three zero (suc b) (suc c) ha hb hc ab ac bc = absurd (bc (omega arith) (omega arith))
sum_of_three (suc a) zero zero ha hb hc ab ac bc = omega (arith, ha)
sum_of_three (suc a) (suc b) c ha hb hc ab ac bc = absurd (ab (omega arith) (omega arith))
sum_of_three (suc a) zero (suc c) ha hb hc ab ac bc = absurd (ac (omega arith) (omega arith))

-- each name of a netlist whose names differ stands there once at most
pub stands_once : (q : Text) (n : Netlist) → NamesDiffer n → times_named q (names_taken n) ≤ 1
stands_once q n differ =
    omega (
      arith,
      taken_times q n,
      sum_of_three (times_named q n.nets) (times_named q (filter_map vector_name n.ports)) (times_named q (filter_map instance_name n.instances))
          (net_once q n.nets (λ i j a b. ap number_in (differ q (Net (record { 0 = i })) (Net (record { 0 = j })) a b)))
          (shown_once vector_name q n.ports (λ i j a b. ap number_in (differ q (Vector (record { 0 = i })) (Vector (record { 0 = j })) a b)))
          (shown_once instance_name q n.instances (λ i j a b. ap number_in (differ q (Instance (record { 0 = i })) (Instance (record { 0 = j })) a b)))
          (λ a b. let x = net_where q n.nets a in let y = shown_where vector_name q n.ports b in net_vector x.0 y.0 (differ q (Net (record { 0 = x.0 })) (Vector (record { 0 = y.0 })) x.1 y.1))
          (λ a b. let x = net_where q n.nets a in let y = shown_where instance_name q n.instances b in net_instance x.0 y.0 (differ q (Net (record { 0 = x.0 })) (Instance (record { 0 = y.0 })) x.1 y.1))
          (λ a b. let x = shown_where vector_name q n.ports a in let y = shown_where instance_name q n.instances b in vector_instance x.0 y.0 (differ q (Vector (record { 0 = x.0 })) (Instance (record { 0 = y.0 })) x.1 y.1)),
    )
