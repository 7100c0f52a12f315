-- The net that parts join an open pin to: that of the first part that joins it.
use Rattle.std.proofs.Common.{ℕ, zero, suc, ◌+◌, ◌≡◌, ◌==◌, ◌&&◌, ◌⊎◌, inl, inr, Bool, true, false, List, [], ◌∷◌, ◌++◌, Option, None, Some, slice_get, refl, sym, subst, ap, ◌∙◌}
use Rattle.std.specs.Prelude.{if◌then◌else◌}
use Rattle.std.proofs.lemmas.Bool.{eqb-true, eq-eqb, eqb-false}
use Rattle.std.proofs.lemmas.Option.{none-some, same_Some}
use Rattle.std.specs.List.{AllByRecursion}
use Rattle.dft_base.proofs.BitLemmas.{and_first}
use Rattle.dft_netlist.specs.declared.ids.NetId.{NetId}
use Rattle.dft_netlist.specs.declared.instance.Signal.{Signal}
use Rattle.dft_netlist.specs.declared.instance.Signal.TheVariants.{Net, Unconnected}
use Rattle.dft_netlist.specs.Netlist.{Netlist}
use Rattle.dft_parts.specs.Growth.{HasParts, instances_in}
use Rattle.dft_parts.specs.Parts.{Part, ANet, AnInstance, APin, joined_to, pin_joined}
use Rattle.dft_parts.specs.Recipes.{Start, Recipe, ◌>>=◌, behind, each}
use Rattle.dft_parts.proofs.Trees.{front, back}
use Rattle.dft_insert.proofs.Joins.{JoinsAt, joined_in, stays_joined, joined_if}

-- the net of the first of these parts that joins a pin of an instance
abbrev pub first_at : List Part → (i p : ℕ) → Option NetId
first_at [] i p = None
first_at (ANet ∷ parts) i p = first_at parts i p
first_at (AnInstance cell pins ∷ parts) i p = first_at parts i p
first_at (APin j pin net ∷ parts) i p = if (j.0 == i) && (pin == p) then Some net else first_at parts i p

abbrev pub or_first : Option NetId → Option NetId → Option NetId
or_first None b = b
or_first (Some net) b = Some net

first_by : (b : Bool) (net : NetId) (o a r : Option NetId) → o ≡ or_first a r → (if b then Some net else o) ≡ or_first (if b then Some net else a) r
first_by true net o a r e = refl
first_by false net o a r e = e

pub first-append : (xs ys : List Part) (i p : ℕ) → first_at (xs ++ ys) i p ≡ or_first (first_at xs i p) (first_at ys i p)
first-append [] ys i p = refl
first-append (ANet ∷ xs) ys i p = first-append xs ys i p
first-append (AnInstance cell pins ∷ xs) ys i p = first-append xs ys i p
first-append (APin j pin net ∷ xs) ys i p = first_by ((j.0 == i) && (pin == p)) net (first_at (xs ++ ys) i p) (first_at xs i p) (first_at ys i p) (first-append xs ys i p)

-- ---- what the pin is joined to

joined_here : (p : ℕ) (net : NetId) (pins : List Signal) → slice_get pins p ≡ Some Unconnected → slice_get (pin_joined p net pins) p ≡ Some (Net net)
joined_here p net [] h = absurd (none-some Unconnected h)
joined_here zero net (x ∷ pins) h = ap (λ (s : Signal). Some (joined_to net s)) (same_Some x Unconnected h)
joined_here (suc p) net (x ∷ pins) h = joined_here p net pins h

joined_apart : (pin p : ℕ) (net : NetId) (pins : List Signal) → (pin ≡ p → ⊥) → slice_get (pin_joined pin net pins) p ≡ slice_get pins p
joined_apart pin p net [] apart = refl
joined_apart zero zero net (x ∷ pins) apart = absurd (apart refl)
joined_apart zero (suc p) net (x ∷ pins) apart = refl
joined_apart (suc pin) zero net (x ∷ pins) apart = refl
joined_apart (suc pin) (suc p) net (x ∷ pins) apart = joined_apart pin p net pins (λ same. apart (ap suc same))

-- the first part joins the pin, or a later one
joined_by : (parts : List Part) (i p : ℕ) (pins : List Signal) (pin : ℕ) (its net : NetId) (a b : Bool) → (pin == p) ≡ b → slice_get pins p ≡ Some Unconnected →
    ((ps : List Signal) → slice_get ps p ≡ Some Unconnected → first_at parts i p ≡ Some net → slice_get (joined_in parts i ps) p ≡ Some (Net net)) → (if a && b then Some its else first_at parts i p) ≡ Some net →
    slice_get (joined_in parts i (joined_if pin its a pins)) p ≡ Some (Net net)
joined_by parts i p pins pin its net false b is free more e = more pins free e
joined_by parts i p pins pin its net true false is free more e = more (pin_joined pin its pins) (joined_apart pin p its pins (eqb-false pin p is) ∙ free) e
joined_by parts i p pins pin its net true true is free more e =
    stays_joined parts i (pin_joined pin its pins) p net
    (subst (λ k. slice_get (pin_joined k its pins) p ≡ Some (Net net)) (sym (eqb-true pin p is)) (joined_here p its pins free ∙ ap (λ (k : NetId). Some (Net k)) (same_Some its net e)))

pub joined_first : (parts : List Part) (i p : ℕ) (pins : List Signal) (net : NetId) → slice_get pins p ≡ Some Unconnected → first_at parts i p ≡ Some net → slice_get (joined_in parts i pins) p ≡ Some (Net net)
joined_first [] i p pins net free e = absurd (none-some net e)
joined_first (ANet ∷ parts) i p pins net free e = joined_first parts i p pins net free e
joined_first (AnInstance cell its ∷ parts) i p pins net free e = joined_first parts i p pins net free e
joined_first (APin j pin its ∷ parts) i p pins net free e = joined_by parts i p pins pin its net (j.0 == i) (pin == p) refl free (λ ps at is. joined_first parts i p ps net at is) e

-- ---- what the first net is

-- there is one, of which this holds; or none
abbrev pub Found : (NetId → Type 0) → Option NetId → Type 0
Found P o = (net : NetId) × (o ≡ Some net) × P net

abbrev pub Fits : (NetId → Type 0) → Option NetId → Type 0
Fits P o = (o ≡ None) ⊎ Found P o

pub found_first : (P : NetId → Type 0) (a b : Option NetId) → Found P a → Found P (or_first a b)
found_first P a b f = (f.0, ap (λ o. or_first o b) f.1, f.2)

pub found_later : (P : NetId → Type 0) (a b : Option NetId) → Fits P a → Found P b → Found P (or_first a b)
found_later P a b fits f = elim fits [
  | inl e ↦ (f.0, ap (λ o. or_first o b) e ∙ f.1, f.2)
  | inr g ↦ found_first P a b g
]

pub fits_both : (P : NetId → Type 0) (a b : Option NetId) → Fits P a → Fits P b → Fits P (or_first a b)
fits_both P a b fits later = elim later [
  | inl e ↦ elim fits [
    | inl none ↦ inl (ap (λ o. or_first o b) none ∙ e)
    | inr f ↦ inr (found_first P a b f)
  ]
  | inr f ↦ inr (found_later P a b fits f)
]

-- a part joins the pin, and of its net this holds
pub part_fits : (P : NetId → Type 0) (j pin i p : ℕ) (net : NetId) (b : Bool) → ((j == i) && (pin == p)) ≡ b → (j ≡ i → P net) → Fits P (if b then Some net else None)
part_fits P j pin i p net false is h = inl refl
part_fits P j pin i p net true is h = inr (net, refl, h (eqb-true j i (and_first (j == i) (pin == p) is)))

pub part_found : (P : NetId → Type 0) (j pin i p : ℕ) (net : NetId) → j ≡ i → pin ≡ p → P net → Found P (if (j == i) && (pin == p) then Some net else None)
part_found P j pin i p net same here h = (net, ap (λ b. if b && (pin == p) then Some net else None) (eq-eqb j i same) ∙ ap (λ b. if b then Some net else None) (eq-eqb pin p here), h)

-- ---- no part joins it

none_by : (Q : ℕ → ℕ → Type 0) (parts : List Part) (i p j pin : ℕ) (net : NetId) (a b : Bool) → (j == i) ≡ a → (pin == p) ≡ b → Q j pin → (Q i p → ⊥) → first_at parts i p ≡ None → (if a && b then Some net else first_at parts i p) ≡ None
none_by Q parts i p j pin net false b is here q none more = more
none_by Q parts i p j pin net true false is here q none more = more
none_by Q parts i p j pin net true true is here q none more = absurd (none (subst (λ k. Q k p) (eqb-true j i is) (subst (Q j) (eqb-true pin p here) q)))

pub none_first : (Q : ℕ → ℕ → Type 0) (parts : List Part) (i p : ℕ) → (Q i p → ⊥) → AllByRecursion (JoinsAt Q) parts → first_at parts i p ≡ None
none_first Q [] i p none h = refl
none_first Q (ANet ∷ parts) i p none h = none_first Q parts i p none h.1
none_first Q (AnInstance cell pins ∷ parts) i p none h = none_first Q parts i p none h.1
none_first Q (APin j pin net ∷ parts) i p none h = none_by Q parts i p j.0 pin net (j.0 == i) (pin == p) refl refl h.0 none (none_first Q parts i p none h.1)

-- ---- of the parts of recipes, where they stand in a netlist

module _ (w : Netlist) (i p : ℕ) (P : NetId → Type 0) where
  -- wherever the recipe begins, and its parts stand
  abbrev pub FitsIn : {A : Type 0} → Recipe A → Type 0
  FitsIn r = (at : Start) (k : ℕ) → at.library ≡ w.library → HasParts w k (r at).parts → Fits P (first_at (r at).parts i p)

  abbrev pub FoundIn : {A : Type 0} → Recipe A → Type 0
  FoundIn r = (at : Start) (k : ℕ) → at.library ≡ w.library → HasParts w k (r at).parts → Found P (first_at (r at).parts i p)

  pub fits_append : (k : ℕ) (xs ys : List Part) → (HasParts w k xs → Fits P (first_at xs i p)) → (HasParts w (k + instances_in xs) ys → Fits P (first_at ys i p)) → HasParts w k (xs ++ ys) → Fits P (first_at (xs ++ ys) i p)
  fits_append k xs ys h g has = subst (Fits P) (sym (first-append xs ys i p)) (fits_both P (first_at xs i p) (first_at ys i p) (h (front w k xs ys has)) (g (back w k xs ys has)))

  pub found_front : (k : ℕ) (xs ys : List Part) → (HasParts w k xs → Found P (first_at xs i p)) → HasParts w k (xs ++ ys) → Found P (first_at (xs ++ ys) i p)
  found_front k xs ys h has = subst (Found P) (sym (first-append xs ys i p)) (found_first P (first_at xs i p) (first_at ys i p) (h (front w k xs ys has)))

  pub found_back : (k : ℕ) (xs ys : List Part) → (HasParts w k xs → Fits P (first_at xs i p)) → (HasParts w (k + instances_in xs) ys → Found P (first_at ys i p)) → HasParts w k (xs ++ ys) → Found P (first_at (xs ++ ys) i p)
  found_back k xs ys h g has = subst (Found P) (sym (first-append xs ys i p)) (found_later P (first_at xs i p) (first_at ys i p) (h (front w k xs ys has)) (g (back w k xs ys has)))

  pub fits_bind : {A B : Type 0} (r : Recipe A) (f : A → Recipe B) → FitsIn r → ((a : A) → FitsIn (f a)) → FitsIn (r >>= f)
  fits_bind r f h g at k same = fits_append k (r at).parts (f (r at).value (behind at (r at).parts)).parts (h at k same) (g (r at).value (behind at (r at).parts) (k + instances_in (r at).parts) same)

  pub found_bind : {A B : Type 0} (r : Recipe A) (f : A → Recipe B) → FoundIn r → FoundIn (r >>= f)
  found_bind r f h at k same = found_front k (r at).parts (f (r at).value (behind at (r at).parts)).parts (h at k same)

  pub found_then : {A B : Type 0} (r : Recipe A) (f : A → Recipe B) → FitsIn r → ((a : A) → FoundIn (f a)) → FoundIn (r >>= f)
  found_then r f h g at k same = found_back k (r at).parts (f (r at).value (behind at (r at).parts)).parts (h at k same) (g (r at).value (behind at (r at).parts) (k + instances_in (r at).parts) same)

  pub fits_each : {X : Type 0} (f : X → Recipe (Unit {0})) (xs : List X) → ((m : ℕ) (x : X) → slice_get xs m ≡ Some x → FitsIn (f x)) → FitsIn (each f xs)
  unfolding each
  fits_each f [] h at k same has = inl refl
  fits_each f (x ∷ xs) h at k same has =
      fits_append k (f x at).parts (each f xs (behind at (f x at).parts)).parts (h 0 x refl at k same) (fits_each f xs (λ m y there. h (suc m) y there) (behind at (f x at).parts) (k + instances_in (f x at).parts) same) has

  -- where it is found for one, and for the others it fits
  pub found_each : {X : Type 0} (f : X → Recipe (Unit {0})) (xs : List X) (m : ℕ) (x : X) → slice_get xs m ≡ Some x → FoundIn (f x) → ((n : ℕ) (y : X) → slice_get xs n ≡ Some y → FitsIn (f y)) → FoundIn (each f xs)
  unfolding each
  found_each f [] m x here found h at k same has = absurd (none-some x here)
  found_each f (y ∷ xs) zero x here found h at k same has =
      found_front k (f y at).parts (each f xs (behind at (f y at).parts)).parts (subst (λ z. FoundIn (f z)) (sym (same_Some y x here)) found at k same) has
  found_each f (y ∷ xs) (suc m) x here found h at k same has =
      found_back k (f y at).parts (each f xs (behind at (f y at).parts)).parts (h 0 y refl at k same)
      (found_each f xs m x here found (λ n z there. h (suc n) z there) (behind at (f y at).parts) (k + instances_in (f y at).parts) same) has
