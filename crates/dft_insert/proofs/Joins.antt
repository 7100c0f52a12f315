-- What the pins of instances that stood are joined to when parts are made.
use Rattle.std.proofs.Common.{ℕ, zero, suc, ◌≡◌, ◌==◌, Bool, true, false, List, [], ◌∷◌, ◌++◌, length, Option, Some, slice_get, refl, sym, subst, ap, arith, ◌∙◌, ◌⊎◌, inl, inr}
use Rattle.std.specs.Prelude.{if◌then◌else◌}
use Rattle.std.specs.List.{AllByRecursion}
use Rattle.std.proofs.lemmas.Bool.{eqb-true, eq-eqb}
use Rattle.std.proofs.lemmas.Bool.Decides.{nat_tests}
use Rattle.std.proofs.lemmas.Option.{none-some, same_Some}
use Rattle.dft_base.proofs.BitLemmas.{true_false}
use Rattle.dft_base.proofs.ListLemmas.{get_left, all_append}
use Rattle.dft_netlist.specs.declared.ids.NetId.{NetId}
use Rattle.dft_netlist.specs.declared.instance.Signal.{Signal}
use Rattle.dft_netlist.specs.declared.instance.Signal.TheVariants.{Net, Constant, Unconnected}
use Rattle.dft_netlist.specs.declared.instance.Instance.{Instance}
use Rattle.dft_parts.specs.Parts.{Part, ANet, AnInstance, APin, Making, pin_joined, instance_joined, with_part, with_parts}
use Rattle.dft_parts.specs.Recipes.{Start, Recipe, pure, ◌>>=◌, behind, each, collect}

-- ---- what holds of each part of a recipe

-- wherever it begins
abbrev pub Holds : {A : Type 0} → (Part → Type 0) → Recipe A → Type 0
Holds P r = (at : Start) → AllByRecursion P (r at).parts

pub holds_pure : {A : Type 0} (P : Part → Type 0) (a : A) → Holds P (pure a)
holds_pure P a at = tt

pub holds_bind : {A B : Type 0} (P : Part → Type 0) (r : Recipe A) (f : A → Recipe B) → Holds P r → ((a : A) → Holds P (f a)) → Holds P (r >>= f)
holds_bind P r f h k at = all_append P (r at).parts (f (r at).value (behind at (r at).parts)).parts (h at) (k (r at).value (behind at (r at).parts))

pub holds_each : {X : Type 0} (P : Part → Type 0) (f : X → Recipe (Unit {0})) (xs : List X) → ((k : ℕ) (x : X) → slice_get xs k ≡ Some x → Holds P (f x)) → Holds P (each f xs)
unfolding each
holds_each P f [] h at = tt
holds_each P f (x ∷ xs) h at =
    all_append P (f x at).parts (each f xs (behind at (f x at).parts)).parts (h 0 x refl at) (holds_each P f xs (λ k y there. h (suc k) y there) (behind at (f x at).parts))

pub holds_collect : {X A : Type 0} (P : Part → Type 0) (f : X → Recipe A) (xs : List X) → ((k : ℕ) (x : X) → slice_get xs k ≡ Some x → Holds P (f x)) → Holds P (collect f xs)
unfolding collect
holds_collect P f [] h at = tt
holds_collect P f (x ∷ xs) h at =
    let first = (f x at).parts in
    let later = (collect f xs (behind at first)).parts in
    all_append P first (later ++ []) (h 0 x refl at) (all_append P later [] (holds_collect P f xs (λ k y there. h (suc k) y there) (behind at first)) tt)

-- ---- pins of one instance

-- the pins of an instance of this number when parts are made
abbrev pub joined_in : List Part → (i : ℕ) → List Signal → List Signal
joined_in [] i pins = pins
joined_in (ANet ∷ parts) i pins = joined_in parts i pins
joined_in (AnInstance cell its ∷ parts) i pins = joined_in parts i pins
joined_in (APin j pin net ∷ parts) i pins = joined_in parts i (if j.0 == i then pin_joined pin net pins else pins)

abbrev pub joined_if : (pin : ℕ) → NetId → Bool → List Signal → List Signal
joined_if pin net b pins = if b then pin_joined pin net pins else pins

joined_here : (j pin : ℕ) (net : NetId) (xs : List Instance) (x : Instance) → slice_get xs j ≡ Some x → slice_get (instance_joined j pin net xs) j ≡ Some (record x { pins = pin_joined pin net x.pins })
joined_here j pin net [] x h = absurd (none-some x h)
joined_here zero pin net (y ∷ xs) x h = ap (λ (z : Instance). Some (record z { pins = pin_joined pin net z.pins })) (same_Some y x h)
joined_here (suc j) pin net (y ∷ xs) x h = joined_here j pin net xs x h

joined_other : (j pin : ℕ) (net : NetId) (xs : List Instance) (i : ℕ) → (j ≡ i → ⊥) → slice_get (instance_joined j pin net xs) i ≡ slice_get xs i
joined_other j pin net [] i apart = refl
joined_other zero pin net (y ∷ xs) zero apart = absurd (apart refl)
joined_other zero pin net (y ∷ xs) (suc i) apart = refl
joined_other (suc j) pin net (y ∷ xs) zero apart = refl
joined_other (suc j) pin net (y ∷ xs) (suc i) apart = joined_other j pin net xs i (λ same. apart (ap suc same))

joined_by : (j pin : ℕ) (net : NetId) (xs : List Instance) (i : ℕ) (x : Instance) (b : Bool) → (j == i) ≡ b → slice_get xs i ≡ Some x → slice_get (instance_joined j pin net xs) i ≡ Some (record x { pins = joined_if pin net b x.pins })
joined_by j pin net xs i x true is h = subst (λ k. slice_get (instance_joined j pin net xs) k ≡ Some (record x { pins = pin_joined pin net x.pins })) (eqb-true j i is) (joined_here j pin net xs x (ap (slice_get xs) (eqb-true j i is) ∙ h))
joined_by j pin net xs i x false is h = joined_other j pin net xs i (λ same. absurd (true_false (j == i) (eq-eqb j i same) is)) ∙ h

joined_at : (j pin : ℕ) (net : NetId) (xs : List Instance) (i : ℕ) (x : Instance) → slice_get xs i ≡ Some x → slice_get (instance_joined j pin net xs) i ≡ Some (record x { pins = joined_if pin net (j == i) x.pins })
joined_at j pin net xs i x h = joined_by j pin net xs i x (j == i) refl h

-- an instance that stood stands, its pins joined by the parts
pub instance_stays : (s : Making) (parts : List Part) (i : ℕ) (x : Instance) → slice_get s.netlist.instances i ≡ Some x → slice_get (with_parts s parts).netlist.instances i ≡ Some (record x { pins = joined_in parts i x.pins })
instance_stays s [] i x h = h
instance_stays s (ANet ∷ parts) i x h = instance_stays (with_part s ANet) parts i x h
instance_stays s (AnInstance cell pins ∷ parts) i x h = instance_stays (with_part s (AnInstance cell pins)) parts i x (get_left s.netlist.instances _ i x h)
instance_stays s (APin j pin net ∷ parts) i x h =
    instance_stays (with_part s (APin j pin net)) parts i (record x { pins = joined_if pin net (j.0 == i) x.pins }) (joined_at j.0 pin net s.netlist.instances i x h)

-- ---- which pins may be joined

-- a part joins only such pins
abbrev pub JoinsAt : (Q : ℕ → ℕ → Type 0) → Part → Type 0
JoinsAt Q ANet = Unit {0}
JoinsAt Q (AnInstance cell pins) = Unit {0}
JoinsAt Q (APin i pin net) = Q i.0 pin

-- a pin is as it was, or was open and is joined, as only such a pin may be
abbrev pub IsKeptOr : (Q : Type 0) → (old new : Option Signal) → Type 0
IsKeptOr Q old new = (new ≡ old) ⊎ ((net : NetId) × Q × (old ≡ Some Unconnected) × (new ≡ Some (Net net)))

pub one_joined : (pin : ℕ) (net : NetId) (pins : List Signal) (p : ℕ) → (slice_get (pin_joined pin net pins) p ≡ slice_get pins p) ⊎ ((pin ≡ p) × (slice_get pins p ≡ Some Unconnected) × (slice_get (pin_joined pin net pins) p ≡ Some (Net net)))
one_joined pin net [] p = inl refl
one_joined zero net (Unconnected ∷ pins) zero = inr (refl, refl, refl)
one_joined zero net (Net other ∷ pins) zero = inl refl
one_joined zero net (Constant bit ∷ pins) zero = inl refl
one_joined zero net (x ∷ pins) (suc p) = inl refl
one_joined (suc pin) net (x ∷ pins) zero = inl refl
one_joined (suc pin) net (x ∷ pins) (suc p) = elim (one_joined pin net pins p) [ inl same ↦ inl same | inr it ↦ inr (ap suc it.0, it.1, it.2) ]

-- once joined it stays
joined_stays : (pins : List Signal) (p : ℕ) (net other : NetId) (pin : ℕ) (b : Bool) → slice_get pins p ≡ Some (Net net) → slice_get (joined_if pin other b pins) p ≡ Some (Net net)
joined_stays pins p net other pin false h = h
joined_stays pins p net other pin true h = elim (one_joined pin other pins p) [ inl same ↦ same ∙ h | inr it ↦ absurd (let e : Some Unconnected ≡ Some (Net net) = sym it.1 ∙ h in cc) ]

pub stays_joined : (parts : List Part) (i : ℕ) (pins : List Signal) (p : ℕ) (net : NetId) → slice_get pins p ≡ Some (Net net) → slice_get (joined_in parts i pins) p ≡ Some (Net net)
stays_joined [] i pins p net h = h
stays_joined (ANet ∷ parts) i pins p net h = stays_joined parts i pins p net h
stays_joined (AnInstance cell its ∷ parts) i pins p net h = stays_joined parts i pins p net h
stays_joined (APin j pin other ∷ parts) i pins p net h = stays_joined parts i (joined_if pin other (j.0 == i) pins) p net (joined_stays pins p net other pin (j.0 == i) h)

kept_by : (Q : ℕ → ℕ → Type 0) (parts : List Part) (i : ℕ) (pins : List Signal) (p : ℕ) (j pin : ℕ) (net : NetId) (b : Bool) → (j == i) ≡ b → Q j pin → ((ps : List Signal) → IsKeptOr (Q i p) (slice_get ps p) (slice_get (joined_in parts i ps) p)) →
    IsKeptOr (Q i p) (slice_get pins p) (slice_get (joined_in parts i (joined_if pin net b pins)) p)
kept_by Q parts i pins p j pin net false is q more = more pins
kept_by Q parts i pins p j pin net true is q more = elim (one_joined pin net pins p) [
  | inl same ↦ subst (λ (o : Option Signal). IsKeptOr (Q i p) o (slice_get (joined_in parts i (pin_joined pin net pins)) p)) same (more (pin_joined pin net pins))
  | inr it ↦ inr (net, subst (Q i) it.0 (subst (λ k. Q k pin) (eqb-true j i is) q), it.1, stays_joined parts i (pin_joined pin net pins) p net it.2)
]

pub pin_kept : (Q : ℕ → ℕ → Type 0) (parts : List Part) (i : ℕ) (pins : List Signal) (p : ℕ) → AllByRecursion (JoinsAt Q) parts → IsKeptOr (Q i p) (slice_get pins p) (slice_get (joined_in parts i pins) p)
pin_kept Q [] i pins p h = inl refl
pin_kept Q (ANet ∷ parts) i pins p h = pin_kept Q parts i pins p h.1
pin_kept Q (AnInstance cell its ∷ parts) i pins p h = pin_kept Q parts i pins p h.1
pin_kept Q (APin j pin net ∷ parts) i pins p h = kept_by Q parts i pins p j.0 pin net (j.0 == i) refl h.0 (λ ps. pin_kept Q parts i ps p h.1)

-- where none of its pins may be joined an instance is as it was
none_by : (Q : ℕ → ℕ → Type 0) (i : ℕ) (pins : List Signal) (j pin : ℕ) (net : NetId) (b : Bool) → (j == i) ≡ b → Q j pin → ((p : ℕ) → Q i p → ⊥) → joined_if pin net b pins ≡ pins
none_by Q i pins j pin net false is q none = refl
none_by Q i pins j pin net true is q none = absurd (none pin (subst (λ k. Q k pin) (eqb-true j i is) q))

pub none_joined : (Q : ℕ → ℕ → Type 0) (parts : List Part) (i : ℕ) (pins : List Signal) → ((p : ℕ) → Q i p → ⊥) → AllByRecursion (JoinsAt Q) parts → joined_in parts i pins ≡ pins
none_joined Q [] i pins none h = refl
none_joined Q (ANet ∷ parts) i pins none h = none_joined Q parts i pins none h.1
none_joined Q (AnInstance cell its ∷ parts) i pins none h = none_joined Q parts i pins none h.1
none_joined Q (APin j pin net ∷ parts) i pins none h = ap (joined_in parts i) (none_by Q i pins j.0 pin net (j.0 == i) refl h.0 none) ∙ none_joined Q parts i pins none h.1

-- as many pins as before
pub one_width : (pin : ℕ) (net : NetId) (pins : List Signal) → length (pin_joined pin net pins) ≡ length pins
one_width pin net [] = refl
one_width zero net (x ∷ pins) = refl
one_width (suc pin) net (x ∷ pins) = ap suc (one_width pin net pins)

width_by : (pins : List Signal) (pin : ℕ) (net : NetId) (b : Bool) → length (joined_if pin net b pins) ≡ length pins
width_by pins pin net false = refl
width_by pins pin net true = one_width pin net pins

pub joined_width : (parts : List Part) (i : ℕ) (pins : List Signal) → length (joined_in parts i pins) ≡ length pins
joined_width [] i pins = refl
joined_width (ANet ∷ parts) i pins = joined_width parts i pins
joined_width (AnInstance cell its ∷ parts) i pins = joined_width parts i pins
joined_width (APin j pin net ∷ parts) i pins = joined_width parts i (joined_if pin net (j.0 == i) pins) ∙ width_by pins pin net (j.0 == i)
