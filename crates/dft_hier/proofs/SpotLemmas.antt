-- Spots of nets and instances: each stands once, and each path has its own.
use Rattle.std.proofs.Common.{ℕ, zero, suc, ◌+◌, ◌<◌, ◌≤◌, ◌≡◌, ◌⊎◌, inl, inr, List, [], ◌∷◌, ◌++◌, length, map, Option, None, Some, option_and_then, slice_get, refl, sym, ap, subst, arith, ◌∙◌, length-append, append_assoc, append-nil}
use Rattle.dft_base.specs.Ranges.{going_up}
use Rattle.dft_base.specs.Lexing.{Text}
use Rattle.dft_modules.specs.declared.module.SubInstance.{SubInstance}
use Rattle.dft_modules.specs.Modules.{Module}
use Rattle.dft_hier.specs.Hierarchy.{subs_of, find_module}
use Rattle.dft_hier.specs.Flat.{inside}
use Rattle.dft_hier.specs.FlatNets.{NetsGiving, sub_nets, subs_nets, nets_in}
use Rattle.dft_hier.specs.Paths.{Path, Spot, Finding, module_of, module_at, below, sub_spots, subs_spots, net_spots_within}
use Rattle.dft_hier.proofs.PartLemmas.{StandsTall, Rises}

abbrev pub spot : Path → ℕ → Spot
spot path at = record { path = path; at = at }

-- ---- lists in which each stands once

-- a spot is among others
pub record Among (spots : List Spot) (s : Spot) : Type 0 where
  pub number : ℕ
  pub at : slice_get spots number ≡ Some s

abbrev pub AreOnce : List Spot → Type 0
AreOnce [] = Unit {0}
AreOnce (s ∷ spots) = ((k : ℕ) → slice_get spots k ≡ Some s → ⊥) × AreOnce spots

pub once : (spots : List Spot) (a b : ℕ) (s : Spot) → AreOnce spots → slice_get spots a ≡ Some s → slice_get spots b ≡ Some s → a ≡ b
once [] a b s h p q = absurd (let f : ⊥ = cc in f)
once (x ∷ spots) zero zero s h p q = refl
once (x ∷ spots) zero (suc b) s h p q = let e : x ≡ s = cc in absurd (h.0 b (q ∙ ap (λ (y : Spot). Some y) (sym e)))
once (x ∷ spots) (suc a) zero s h p q = let e : x ≡ s = cc in absurd (h.0 a (p ∙ ap (λ (y : Spot). Some y) (sym e)))
once (x ∷ spots) (suc a) (suc b) s h p q = ap suc (once spots a b s h.1 p q)

pub either : (xs ys : List Spot) (k : ℕ) (s : Spot) → slice_get (xs ++ ys) k ≡ Some s → Among xs s ⊎ Among ys s
either [] ys k s at = inr (record { number = k; at = at })
either (x ∷ xs) ys zero s at = inl (record { number = zero; at = at })
either (x ∷ xs) ys (suc k) s at = elim (either xs ys k s at) [
  | inl front ↦ inl (record { number = suc front.number; at = front.at })
  | inr back ↦ inr back
]

pub among_left : (xs ys : List Spot) (k : ℕ) (s : Spot) → slice_get xs k ≡ Some s → Among (xs ++ ys) s
among_left [] ys k s at = absurd (let f : ⊥ = cc in f)
among_left (x ∷ xs) ys zero s at = record { number = zero; at = at }
among_left (x ∷ xs) ys (suc k) s at = let r = among_left xs ys k s at in record { number = suc r.number; at = r.at }

pub among_right : (xs ys : List Spot) (k : ℕ) (s : Spot) → slice_get ys k ≡ Some s → Among (xs ++ ys) s
among_right [] ys k s at = record { number = k; at = at }
among_right (x ∷ xs) ys k s at = let r = among_right xs ys k s at in record { number = suc r.number; at = r.at }

abbrev Apart : (xs ys : List Spot) → Type 0
Apart xs ys = (a b : ℕ) (s : Spot) → slice_get xs a ≡ Some s → slice_get ys b ≡ Some s → ⊥

pub once_both : (xs ys : List Spot) → AreOnce xs → AreOnce ys → Apart xs ys → AreOnce (xs ++ ys)
once_both [] ys h k apart = k
once_both (x ∷ xs) ys h k apart = (
  (λ n at. elim (either xs ys n x at) [
    | inl front ↦ h.0 front.number front.at
    | inr back ↦ apart zero back.number x refl back.at
  ]),
  once_both xs ys h.1 k (λ a b s p q. apart (suc a) b s p q),
)

-- ---- the spots of one module

abbrev pub own_from : Path → (from count : ℕ) → List Spot
own_from path from count = map (λ number. record { path = path; at = number }) (going_up from count)

own_at : (path : Path) (from count k : ℕ) (s : Spot) → slice_get (own_from path from count) k ≡ Some s → (s.path ≡ path) × (s.at ≡ from + k)
own_at path from zero k s at = absurd (let f : ⊥ = cc in f)
own_at path from (suc count) zero s at =
    let e : spot path from ≡ s = cc in
    let number = ap (λ (x : Spot). x.at) e in
    (ap (λ (x : Spot). x.path) (sym e), (omega arith))
own_at path from (suc count) (suc k) s at =
    let r = own_at path (suc from) count k s at in
    let number = r.1 in
    (r.0, (omega arith))

own_once : (path : Path) (from count : ℕ) → AreOnce (own_from path from count)
own_once path from zero = tt
own_once path from (suc count) = ((λ k at. (let r = own_at path (suc from) count k (spot path from) at in let number = r.1 in absurd (omega arith))), own_once path (suc from) count)

pub own_there : (path : Path) (from count at : ℕ) → at < count → slice_get (own_from path from count) at ≡ Some (spot path (from + at))
own_there path from zero at less = absurd (omega (arith, less))
own_there path from (suc count) zero less = let e : from ≡ from + 0 = omega arith in ap (λ (n : ℕ). Some (spot path n)) e
own_there path from (suc count) (suc at) less = let e : suc from + at ≡ from + suc at = omega arith in own_there path (suc from) count at (omega (arith, less)) ∙ ap (λ (n : ℕ). Some (spot path n)) e

pub own_count : (path : Path) (from count : ℕ) → length (own_from path from count) ≡ count
own_count path from zero = refl
own_count path from (suc count) = ap suc (own_count path (suc from) count)

-- ---- paths

-- a spot stands at a path that goes on from this one
pub record IsUnder (path : Path) (s : Spot) : Type 0 where
  pub more : Path
  pub is : s.path ≡ path ++ more

-- and through a module instance from this place on
pub record IsThrough (path : Path) (from : ℕ) (s : Spot) : Type 0 where
  pub place : ℕ
  pub least : from ≤ place
  pub under : IsUnder (below path place) s

pub same_place : (path p q : Path) (i j : ℕ) → below path i ++ p ≡ below path j ++ q → i ≡ j
same_place [] p q i j same = cc
same_place (x ∷ path) p q i j same = let rest : below path i ++ p ≡ below path j ++ q = cc in same_place path p q i j rest

pub never_above : (path q : Path) (j : ℕ) → path ≡ below path j ++ q → ⊥
never_above [] q j same = cc
never_above (x ∷ path) q j same = let rest : path ≡ below path j ++ q = cc in never_above path q j rest

-- ---- below module instances

module _ (find : Finding) (ms : List Module) (under : (path : Path) (m : Module) (k : ℕ) (s : Spot) → slice_get (find path m) k ≡ Some s → IsUnder path s) where
  pub one_under : (path : Path) (o : Option Module) (k : ℕ) (s : Spot) → slice_get (sub_spots find path o) k ≡ Some s → IsUnder path s
  one_under path None k s at = absurd (let f : ⊥ = cc in f)
  one_under path (Some m) k s at = under path m k s at

  pub subs_under : (path : Path) (place : ℕ) (subs : List SubInstance) (k : ℕ) (s : Spot) → slice_get (subs_spots find ms path place subs) k ≡ Some s → IsThrough path place s
  subs_under path place [] k s at = absurd (let f : ⊥ = cc in f)
  subs_under path place (x ∷ subs) k s at = elim (either (sub_spots find (below path place) (find_module ms x.of)) (subs_spots find ms path (suc place) subs) k s at) [
    | inl front ↦ record { place = place; least = omega arith; under = one_under (below path place) (find_module ms x.of) front.number s front.at }
    | inr back ↦ (let r = subs_under path (suc place) subs back.number s back.at in let less = r.least in record { place = r.place; least = omega arith; under = r.under })
  ]

  pub one_once : (path : Path) (o : Option Module) → ((p : Path) (m : Module) → AreOnce (find p m)) → AreOnce (sub_spots find path o)
  one_once path None each = tt
  one_once path (Some m) each = each path m

  pub subs_once : (path : Path) (place : ℕ) (subs : List SubInstance) → ((p : Path) (m : Module) → AreOnce (find p m)) → AreOnce (subs_spots find ms path place subs)
  subs_once path place [] each = tt
  subs_once path place (x ∷ subs) each =
      once_both (sub_spots find (below path place) (find_module ms x.of)) (subs_spots find ms path (suc place) subs) (one_once (below path place) (find_module ms x.of) each) (subs_once path (suc place) subs each)
      (λ a b s p q. (
      let here = one_under (below path place) (find_module ms x.of) a s p in
      let there = subs_under path (suc place) subs b s q in
      let same = same_place path here.more there.under.more place there.place (sym here.is ∙ there.under.is) in
      let less = there.least in
      absurd (omega arith)))

subs_among : (find : Finding) (ms : List Module) (path : Path) (from place : ℕ) (subs : List SubInstance) (x : SubInstance) (m : Module) (s : Spot) → slice_get subs place ≡ Some x → find_module ms x.of ≡ Some m → Among (find (below path (from + place)) m) s → Among (subs_spots find ms path from subs) s
subs_among find ms path from place [] x m s at is there = absurd (let f : ⊥ = cc in f)
subs_among find ms path from zero (y ∷ subs) x m s at is there =
    let e : y ≡ x = cc in
    let start : from + 0 ≡ from = omega arith in
    let here : find (below path (from + 0)) m ≡ sub_spots find (below path from) (find_module ms y.of) =
    ap (λ (n : ℕ). find (below path n) m) start ∙ ap (sub_spots find (below path from)) (sym is) ∙ ap (λ (z : SubInstance). sub_spots find (below path from) (find_module ms z.of)) (sym e) in
    among_left (sub_spots find (below path from) (find_module ms y.of)) (subs_spots find ms path (suc from) subs) there.number s (ap (λ (xs : List Spot). slice_get xs there.number) (sym here) ∙ there.at)
subs_among find ms path from (suc place) (y ∷ subs) x m s at is there =
    let next : from + suc place ≡ suc from + place = omega arith in
    let r = subs_among find ms path (suc from) place subs x m s at is (subst (λ (n : ℕ). Among (find (below path n) m) s) next there) in
    among_right (sub_spots find (below path from) (find_module ms y.of)) (subs_spots find ms path (suc from) subs) r.number s r.at

-- ---- nets

pub nets_under : (ms : List Module) (depth : ℕ) (path : Path) (m : Module) (k : ℕ) (s : Spot) → slice_get (net_spots_within depth ms path m) k ≡ Some s → IsUnder path s
nets_under ms zero path m k s at = absurd (let f : ⊥ = cc in f)
nets_under ms (suc depth) path m k s at = elim (either (own_from path 0 (length m.nets)) (subs_spots (net_spots_within depth ms) ms path 0 (subs_of m.items)) k s at) [
  | inl own ↦ record { more = []; is = (own_at path 0 (length m.nets) own.number s own.at).0 ∙ sym (append-nil path) }
  | inr deep ↦ (
      let r = subs_under (net_spots_within depth ms) ms (λ p x i t is. nets_under ms depth p x i t is) path 0 (subs_of m.items) deep.number s deep.at in
      record { more = r.place ∷ r.under.more; is = r.under.is ∙ append_assoc path (r.place ∷ []) r.under.more })
]

pub nets_once : (ms : List Module) (depth : ℕ) (path : Path) (m : Module) → AreOnce (net_spots_within depth ms path m)
nets_once ms zero path m = tt
nets_once ms (suc depth) path m =
    once_both (own_from path 0 (length m.nets)) (subs_spots (net_spots_within depth ms) ms path 0 (subs_of m.items)) (own_once path 0 (length m.nets))
    (subs_once (net_spots_within depth ms) ms (λ p x i t is. nets_under ms depth p x i t is) path 0 (subs_of m.items) (λ p x. nets_once ms depth p x))
    (λ a b s p q. (
    let here = own_at path 0 (length m.nets) a s p in
    let deep = subs_under (net_spots_within depth ms) ms (λ p x i t is. nets_under ms depth p x i t is) path 0 (subs_of m.items) b s q in
    never_above path deep.under.more deep.place (sym here.0 ∙ deep.under.is)))

-- the instance that a path goes on with, and its module
pub record GoesOn (ms : List Module) (path : Path) (target : Module) (o : Option SubInstance) : Type 0 where
  pub sub : SubInstance
  pub inner : Module
  pub at : o ≡ Some sub
  pub found : find_module ms sub.of ≡ Some inner
  pub rest : module_at ms path inner ≡ Some target

pub module_below : (ms : List Module) (path : Path) (target : Module) (o : Option SubInstance) → option_and_then (module_at ms path) (module_of ms o) ≡ Some target → GoesOn ms path target o
module_below ms path target None is = absurd (let f : ⊥ = cc in f)
module_below ms path target (Some x) is = by (find_module ms x.of) refl is
  where
    by : (o : Option Module) → find_module ms x.of ≡ o → option_and_then (module_at ms path) o ≡ Some target → GoesOn ms path target (Some x)
    by None at is = absurd (let f : ⊥ = cc in f)
    by (Some m) at is = record { sub = x; inner = m; at = refl; found = at; rest = is }

pub nets_all : (ms : List Module) (depth : ℕ) (m : Module) → StandsTall ms depth m → (base path : Path) (target : Module) (at : ℕ) → module_at ms path m ≡ Some target → at < length target.nets → Among (net_spots_within depth ms base m) (spot (base ++ path) at)
nets_all ms zero m tall base path target at is less = elim tall [ ]
nets_all ms (suc depth) m (Rises each) base [] target at is less =
    let e : m ≡ target = cc in
    let size = ap (λ (x : Module). length x.nets) e in
    let start : 0 + at ≡ at = omega arith in
    let own = own_there base 0 (length m.nets) at (omega arith) ∙ ap (λ (n : ℕ). Some (spot base n)) start in
    let r = among_left (own_from base 0 (length m.nets)) (subs_spots (net_spots_within depth ms) ms base 0 (subs_of m.items)) at (spot base at) own in
    subst (λ (p : Path). Among (net_spots_within (suc depth) ms base m) (spot p at)) (sym (append-nil base)) r
nets_all ms (suc depth) m (Rises each) base (place ∷ path) target at is less =
    let b = module_below ms path target (slice_get (subs_of m.items) place) is in
    let start : place ≡ 0 + place = omega arith in
    let rest = nets_all ms depth b.inner (each place b.sub b.inner b.at b.found) (below base place) path target at b.rest less in
    let r = subs_among (net_spots_within depth ms) ms base 0 place (subs_of m.items) b.sub b.inner (spot (below base place ++ path) at) b.at b.found (subst (λ (n : ℕ). Among (net_spots_within depth ms (below base n) b.inner) (spot (below base place ++ path) at)) start rest) in
    let deep = among_right (own_from base 0 (length m.nets)) (subs_spots (net_spots_within depth ms) ms base 0 (subs_of m.items)) r.number (spot (below base place ++ path) at) r.at in
    subst (λ (p : Path). Among (net_spots_within (suc depth) ms base m) (spot p at)) (append_assoc base (place ∷ []) path) deep

-- as many as there are nets
count_subs : (give : NetsGiving) (find : Finding) (ms : List Module) (prefix : Text) (path : Path) (place : ℕ) (subs : List SubInstance) → ((p : Text) (q : Path) (m : Module) → length (give p m) ≡ length (find q m)) → length (subs_nets give ms prefix subs) ≡ length (subs_spots find ms path place subs)
count_subs give find ms prefix path place [] same = refl
count_subs give find ms prefix path place (x ∷ subs) same =
    let here = by (find_module ms x.of) in
    let rest = count_subs give find ms prefix path (suc place) subs same in
    let a = length-append (sub_nets give prefix x (find_module ms x.of)) (subs_nets give ms prefix subs) in
    let b = length-append (sub_spots find (below path place) (find_module ms x.of)) (subs_spots find ms path (suc place) subs) in
    a ∙ ap (λ (n : ℕ). n + length (subs_nets give ms prefix subs)) here ∙ ap (λ (n : ℕ). length (sub_spots find (below path place) (find_module ms x.of)) + n) rest ∙ sym b
  where
    by : (o : Option Module) → length (sub_nets give prefix x o) ≡ length (sub_spots find (below path place) o)
    by None = refl
    by (Some m) = same (inside prefix x.name) (below path place) m

count_names : (prefix : Text) (names : List Text) → length (map (λ name. prefix ++ name) names) ≡ length names
count_names prefix [] = refl
count_names prefix (n ∷ names) = ap suc (count_names prefix names)

pub nets_count : (ms : List Module) (depth : ℕ) (prefix : Text) (path : Path) (m : Module) → length (nets_in depth ms prefix m) ≡ length (net_spots_within depth ms path m)
nets_count ms zero prefix path m = refl
nets_count ms (suc depth) prefix path m =
    let a = length-append (map (λ name. prefix ++ name) m.nets) (subs_nets (nets_in depth ms) ms prefix (subs_of m.items)) in
    let b = length-append (own_from path 0 (length m.nets)) (subs_spots (net_spots_within depth ms) ms path 0 (subs_of m.items)) in
    let rest = count_subs (nets_in depth ms) (net_spots_within depth ms) ms prefix path 0 (subs_of m.items) (λ p q x. nets_count ms depth p q x) in
    let names = count_names prefix m.nets in
    let own = own_count path 0 (length m.nets) in
    a ∙ ap (λ (n : ℕ). n + length (subs_nets (nets_in depth ms) ms prefix (subs_of m.items))) (names ∙ sym own) ∙ ap (λ (n : ℕ). length (own_from path 0 (length m.nets)) + n) rest ∙ sym b
