-- The drivers of a design, with their nets moved, among those of its scanned netlist.
use Rattle.std.proofs.Common.{ℕ, zero, suc, ◌+◌, ◌≡◌, ◌==◌, ◌<◌, ◌⊎◌, inl, inr, Bool, true, false, List, [], ◌∷◌, ◌++◌, length, map, Option, None, Some, slice_get, refl, sym, subst, ap, arith, ◌∙◌, append_assoc, append-nil}
use Rattle.std.specs.Prelude.{slice_index_or, if◌then◌else◌}
use Rattle.std.proofs.lemmas.Bool.{eqb-true, eq-eqb}
use Rattle.std.proofs.lemmas.Bool.Decides.{nat_tests}
use Rattle.std.specs.List.{AllByRecursion}
use Rattle.dft_base.proofs.NumberLemmas.{less_apart}
use Rattle.dft_cells.specs.declared.kind.Kind.{Kind}
use Rattle.dft_cells.specs.declared.kind.Forcing.TheVariants as force
use Rattle.dft_cells.specs.declared.kind.Role.{Role}
use Rattle.dft_cells.specs.declared.kind.Role.TheVariants.{Clock, Din, Reset, Preset, ScanIn, ScanEnable, Output, Inverted}
use Rattle.dft_netlist.specs.declared.ids.NetId.{NetId}
use Rattle.dft_netlist.specs.declared.instance.Signal.{Signal}
use Rattle.dft_netlist.specs.declared.instance.Signal.TheVariants.{Net, Constant, Unconnected}
use Rattle.dft_netlist.specs.declared.instance.Instance.{Instance}
use Rattle.dft_netlist.specs.Drivers.{Source, Driver, Flop, Driven, connections_from, at_signal, driven_by_pins}
use Rattle.dft_netlist.specs.Sound.{is_output}
use Rattle.dft_parts.specs.MadeNames.{made_instance}
use Rattle.dft_parts.specs.Parts.{Part, ANet, AnInstance, APin, Making, pin_joined, instance_joined, with_part, with_parts}
use Rattle.dft_parts.proofs.Growing.{joined_length}
use Rattle.dft_scan_frame.specs.Moves.{map_from, Gap, moved, moved_signal}
use Rattle.dft_scan_frame.proofs.Mergings.{Merges, moved_driver, moved_driven, append_merges, all_kept, all_added, NoneAt}
use Rattle.dft_scan_frame.proofs.ScanPairs.{plain_flop, scan_flop, ScanPair, Plain, PlainBoth, Resets, ResetsBoth, Sets, SetsBoth, ListOf3, ListOf4, ListOf5, three, four, five}
use Rattle.dft_scan_frame.proofs.Tabled.{map_from_same}
use Rattle.dft_insert.proofs.Joins.{joined_in, stays_joined, joined_if, one_joined}

-- ---- the instances of a netlist that grew

-- made instances, one after another, from a number of made names on
abbrev pub news : (number : ℕ) → List Part → List Instance
news number [] = []
news number (ANet ∷ parts) = news number parts
news number (AnInstance cell pins ∷ parts) = record { name = Some (made_instance number); cell = cell; pins = pins } ∷ news (number + 1) parts
news number (APin i pin net ∷ parts) = news number parts

-- a part joins pins of the first instances alone
abbrev pub Early : (count : ℕ) → Part → Type 0
Early count ANet = Unit {0}
Early count (AnInstance cell pins) = Unit {0}
Early count (APin i pin net) = i.0 < count

-- an instance with the pins that parts join
abbrev pub joined_at : List Part → (number : ℕ) → Instance → Instance
joined_at parts k x = record x { pins = joined_in parts k x.pins }

joined_front : (i pin : ℕ) (net : NetId) (xs ys : List Instance) → i < length xs → instance_joined i pin net (xs ++ ys) ≡ instance_joined i pin net xs ++ ys
joined_front i pin net [] ys less = absurd (omega (arith, less))
joined_front zero pin net (x ∷ xs) ys less = refl
joined_front (suc i) pin net (x ∷ xs) ys less = ap (λ (zs : List Instance). x ∷ zs) (joined_front i pin net xs ys (omega (arith, less)))

pub differ_down : (a b : ℕ) → b < a → (a == b) ≡ false
differ_down = grind arith

joined_more : (i pin : ℕ) (net : NetId) (parts : List Part) (b j : ℕ) (xs : List Instance) → i ≡ b + j →
    map_from (λ (k : ℕ) (x : Instance). record x { pins = joined_in parts k (if i == k then pin_joined pin net x.pins else x.pins) }) b xs ≡ map_from (joined_at parts) b (instance_joined j pin net xs)
joined_more i pin net parts b j [] is = refl
joined_more i pin net parts b zero (x ∷ xs) is =
    ap (λ t. record x { pins = joined_in parts b (if t then pin_joined pin net x.pins else x.pins) } ∷ map_from (λ (k : ℕ) (y : Instance). record y { pins = joined_in parts k (if i == k then pin_joined pin net y.pins else y.pins) }) (suc b) xs) (eq-eqb i b (omega (arith, is)))
    ∙ ap (λ (ys : List Instance). record x { pins = joined_in parts b (pin_joined pin net x.pins) } ∷ ys)
    (map_from_same (λ (k : ℕ) (y : Instance). record y { pins = joined_in parts k (if i == k then pin_joined pin net y.pins else y.pins) }) (joined_at parts) (suc b) xs
    (λ k y at. ap (λ t. record y { pins = joined_in parts (suc b + k) (if t then pin_joined pin net y.pins else y.pins) }) (less_apart i (suc b + k) (omega (arith, is)))))
joined_more i pin net parts b (suc j) (x ∷ xs) is =
    ap (λ t. record x { pins = joined_in parts b (if t then pin_joined pin net x.pins else x.pins) } ∷ map_from (λ (k : ℕ) (y : Instance). record y { pins = joined_in parts k (if i == k then pin_joined pin net y.pins else y.pins) }) (suc b) xs) (differ_down i b (omega (arith, is)))
    ∙ ap (λ (ys : List Instance). joined_at parts b x ∷ ys) (joined_more i pin net parts (suc b) j xs (omega (arith, is)))

same_from : (i : ℕ) (xs : List Instance) → map_from (joined_at []) i xs ≡ xs
same_from i [] = refl
same_from i (x ∷ xs) = ap (λ (ys : List Instance). x ∷ ys) (same_from (suc i) xs)

-- the first instances, with the pins that parts join, and behind them the made ones
pub instances_are : (s : Making) (parts : List Part) (xs ys : List Instance) → s.netlist.instances ≡ xs ++ ys → AllByRecursion (Early (length xs)) parts → (with_parts s parts).netlist.instances ≡ map_from (joined_at parts) 0 xs ++ (ys ++ news s.made.instances parts)
instances_are s [] xs ys is early = is ∙ ap (λ (zs : List Instance). zs ++ ys) (sym (same_from 0 xs)) ∙ ap (λ (zs : List Instance). map_from (joined_at []) 0 xs ++ zs) (sym (append-nil ys))
instances_are s (ANet ∷ parts) xs ys is early = instances_are (with_part s ANet) parts xs ys is early.1
instances_are s (AnInstance cell pins ∷ parts) xs ys is early =
    let made : Instance = record { name = Some (made_instance s.made.instances); cell = cell; pins = pins } in
    instances_are (with_part s (AnInstance cell pins)) parts xs (ys ++ made ∷ []) (ap (λ (zs : List Instance). zs ++ made ∷ []) is ∙ append_assoc xs ys (made ∷ [])) early.1
    ∙ ap (λ (zs : List Instance). map_from (joined_at parts) 0 xs ++ zs) (append_assoc ys (made ∷ []) (news (s.made.instances + 1) parts))
instances_are s (APin i pin net ∷ parts) xs ys is early =
    let less : i.0 < length xs = early.0 in
    instances_are (with_part s (APin i pin net)) parts (instance_joined i.0 pin net xs) ys (ap (instance_joined i.0 pin net) is ∙ joined_front i.0 pin net xs ys less)
    (subst (λ k. AllByRecursion (Early k) parts) (sym (joined_length i.0 pin net xs)) early.1)
    ∙ ap (λ (zs : List Instance). zs ++ (ys ++ news s.made.instances parts)) (sym (joined_more i.0 pin net parts 0 i.0 xs (omega arith)))

-- ---- pins, and the nets that they are joined to

-- a part joins only such pins, and to such nets
abbrev pub JoinsWith : (Q : ℕ → ℕ → NetId → Type 0) → Part → Type 0
JoinsWith Q ANet = Unit {0}
JoinsWith Q (AnInstance cell pins) = Unit {0}
JoinsWith Q (APin i pin net) = Q i.0 pin net

abbrev pub IsKeptOr : (Q : NetId → Type 0) → (old new : Option Signal) → Type 0
IsKeptOr Q old new = (new ≡ old) ⊎ ((net : NetId) × Q net × (old ≡ Some Unconnected) × (new ≡ Some (Net net)))

kept_by : (Q : ℕ → ℕ → NetId → Type 0) (parts : List Part) (i : ℕ) (pins : List Signal) (p : ℕ) (j pin : ℕ) (net : NetId) (b : Bool) → (j == i) ≡ b → Q j pin net → ((ps : List Signal) → IsKeptOr (Q i p) (slice_get ps p) (slice_get (joined_in parts i ps) p)) →
    IsKeptOr (Q i p) (slice_get pins p) (slice_get (joined_in parts i (joined_if pin net b pins)) p)
kept_by Q parts i pins p j pin net false is q more = more pins
kept_by Q parts i pins p j pin net true is q more = elim (one_joined pin net pins p) [
  | inl same ↦ subst (λ (o : Option Signal). IsKeptOr (Q i p) o (slice_get (joined_in parts i (pin_joined pin net pins)) p)) same (more (pin_joined pin net pins))
  | inr it ↦ inr (net, subst (λ k. Q i k net) it.0 (subst (λ k. Q k pin net) (eqb-true j i is) q), it.1, stays_joined parts i (pin_joined pin net pins) p net it.2)
]

pub pin_kept : (Q : ℕ → ℕ → NetId → Type 0) (parts : List Part) (i : ℕ) (pins : List Signal) (p : ℕ) → AllByRecursion (JoinsWith Q) parts → IsKeptOr (Q i p) (slice_get pins p) (slice_get (joined_in parts i pins) p)
pin_kept Q [] i pins p h = inl refl
pin_kept Q (ANet ∷ parts) i pins p h = pin_kept Q parts i pins p h.1
pin_kept Q (AnInstance cell its ∷ parts) i pins p h = pin_kept Q parts i pins p h.1
pin_kept Q (APin j pin net ∷ parts) i pins p h = kept_by Q parts i pins p j.0 pin net (j.0 == i) refl h.0 (λ ps. pin_kept Q parts i ps p h.1)

-- ---- merges whose added drivers leave a net alone

pub record Carries (f : ℕ → ℕ) (k : ℕ) (old all : List Driven) : Type 0 where
  pub added : List Driven
  pub merges : Merges f old added all
  pub none : NoneAt added k

pub none_append : (xs ys : List Driven) (k : ℕ) → NoneAt xs k → NoneAt ys k → NoneAt (xs ++ ys) k
none_append [] ys k h g = g
none_append (x ∷ xs) ys k h g = (h.0, none_append xs ys k h.1 g)

pub carries_append : (f : ℕ → ℕ) (k : ℕ) (old all old2 all2 : List Driven) → Carries f k old all → Carries f k old2 all2 → Carries f k (old ++ old2) (all ++ all2)
carries_append f k old all old2 all2 c d = record {
  added = c.added ++ d.added;
  merges = append_merges f old c.added all old2 d.added all2 c.merges d.merges;
  none = none_append c.added d.added k c.none d.none;
}

pub carries_all : (f : ℕ → ℕ) (k : ℕ) (ds all : List Driven) → all ≡ map (moved_driven f) ds → Carries f k ds all
carries_all f k ds all is = record { added = []; merges = subst (Merges f ds []) (sym is) (all_kept f ds); none = tt }

pub carries_added : (f : ℕ → ℕ) (k : ℕ) (ds : List Driven) → NoneAt ds k → Carries f k [] ds
carries_added f k ds none = record { added = ds; merges = all_added f ds; none = none }

-- ---- outputs of scan cells

-- an output is joined as before, moved, or was open and is joined to another net than this one
abbrev pub IsOutput : Gap → (k : ℕ) → (old new : Signal) → Type 0
IsOutput gap k q p = (p ≡ moved_signal gap q) ⊎ ((net : NetId) × (q ≡ Unconnected) × (p ≡ Net net) × ((net.0 == k) ≡ false))

output_carries : (gap : Gap) (k : ℕ) (q p : Signal) (d : Driver) → moved_driver (moved gap) d ≡ d → IsOutput gap k q p → Carries (moved gap) k (at_signal q d) (at_signal p d)
output_carries gap k (Net own) p d same (inl is) = carries_all (moved gap) k ((own.0, d) ∷ []) (at_signal p d) (ap (λ (s : Signal). at_signal s d) is ∙ ap (λ e. (moved gap own.0, e) ∷ []) (sym same))
output_carries gap k (Constant bit) p d same (inl is) = carries_all (moved gap) k [] (at_signal p d) (ap (λ (s : Signal). at_signal s d) is)
output_carries gap k Unconnected p d same (inl is) = carries_all (moved gap) k [] (at_signal p d) (ap (λ (s : Signal). at_signal s d) is)
output_carries gap k (Net own) p d same (inr it) = absurd (let e : Net own ≡ Unconnected = it.1 in cc)
output_carries gap k (Constant bit) p d same (inr it) = absurd (let e : Constant bit ≡ Unconnected = it.1 in cc)
output_carries gap k Unconnected p d same (inr it) = subst (λ (s : Signal). Carries (moved gap) k [] (at_signal s d)) (sym it.2) (carries_added (moved gap) k ((it.0.0, d) ∷ []) (it.3, tt))

one_carries : (gap : Gap) (k i : ℕ) (q p : Signal) → IsOutput gap k q p → Carries (moved gap) k (at_signal q (Flop i false) ++ []) (at_signal p (Flop i false) ++ [])
one_carries gap k i q p h = carries_append (moved gap) k (at_signal q (Flop i false)) (at_signal p (Flop i false)) [] [] (output_carries gap k q p (Flop i false) refl h) (carries_all (moved gap) k [] [] refl)

both_carry : (gap : Gap) (k i : ℕ) (q p r s : Signal) → IsOutput gap k q p → IsOutput gap k r s → Carries (moved gap) k (at_signal q (Flop i false) ++ (at_signal r (Flop i true) ++ [])) (at_signal p (Flop i false) ++ (at_signal s (Flop i true) ++ []))
both_carry gap k i q p r s h g =
    carries_append (moved gap) k (at_signal q (Flop i false)) (at_signal p (Flop i false)) (at_signal r (Flop i true) ++ []) (at_signal s (Flop i true) ++ []) (output_carries gap k q p (Flop i false) refl h)
    (carries_append (moved gap) k (at_signal r (Flop i true)) (at_signal s (Flop i true)) [] [] (output_carries gap k r s (Flop i true) refl g) (carries_all (moved gap) k [] [] refl))

-- the pin at a number of a list
abbrev pub pin_at : List Signal → ℕ → Signal
pin_at pins p = slice_index_or pins p Unconnected

abbrev Drives : Gap → (k i : ℕ) → Kind → List Role → Kind → List Role → (ins its : List Source) → (pins joined : List Signal) → Type 0
Drives gap k i a r b s ins its pins joined = Carries (moved gap) k (driven_by_pins a i ins (connections_from 0 r pins)) (driven_by_pins b i its (connections_from 0 s joined))

pub record ListOf6 (pins : List Signal) : Type 0 where
  pub a : Signal
  pub b : Signal
  pub c : Signal
  pub d : Signal
  pub e : Signal
  pub f : Signal
  pub is : pins ≡ a ∷ b ∷ c ∷ d ∷ e ∷ f ∷ []

pub six : (pins : List Signal) → length pins ≡ 6 → ListOf6 pins
six [] h = absurd (omega (arith, h))
six (a ∷ []) h = absurd (omega (arith, h))
six (a ∷ b ∷ []) h = absurd (omega (arith, h))
six (a ∷ b ∷ c ∷ []) h = absurd (omega (arith, h))
six (a ∷ b ∷ c ∷ d ∷ []) h = absurd (omega (arith, h))
six (a ∷ b ∷ c ∷ d ∷ e ∷ []) h = absurd (omega (arith, h))
six (a ∷ b ∷ c ∷ d ∷ e ∷ f ∷ []) h = record { a = a; b = b; c = c; d = d; e = e; f = f; is = refl }
six (a ∷ b ∷ c ∷ d ∷ e ∷ f ∷ g ∷ pins) h = absurd (omega (arith, h))

pub record ListOf7 (pins : List Signal) : Type 0 where
  pub a : Signal
  pub b : Signal
  pub c : Signal
  pub d : Signal
  pub e : Signal
  pub f : Signal
  pub g : Signal
  pub is : pins ≡ a ∷ b ∷ c ∷ d ∷ e ∷ f ∷ g ∷ []

pub seven : (pins : List Signal) → length pins ≡ 7 → ListOf7 pins
seven [] h = absurd (omega (arith, h))
seven (a ∷ []) h = absurd (omega (arith, h))
seven (a ∷ b ∷ []) h = absurd (omega (arith, h))
seven (a ∷ b ∷ c ∷ []) h = absurd (omega (arith, h))
seven (a ∷ b ∷ c ∷ d ∷ []) h = absurd (omega (arith, h))
seven (a ∷ b ∷ c ∷ d ∷ e ∷ []) h = absurd (omega (arith, h))
seven (a ∷ b ∷ c ∷ d ∷ e ∷ f ∷ []) h = absurd (omega (arith, h))
seven (a ∷ b ∷ c ∷ d ∷ e ∷ f ∷ g ∷ []) h = record { a = a; b = b; c = c; d = d; e = e; f = f; g = g; is = refl }
seven (a ∷ b ∷ c ∷ d ∷ e ∷ f ∷ g ∷ h ∷ pins) i = absurd (omega (arith, i))

-- the role at a number is that of an output
abbrev pub is_output_role : Option Role → Bool
is_output_role None = false
is_output_role (Some role) = is_output role

abbrev pub is_output_at : List Role → (place : ℕ) → Bool
is_output_at roles place = is_output_role (slice_get roles place)

pub scan_carries : (gap : Gap) (k i : ℕ) (a : Kind) (r : List Role) (b : Kind) (s : List Role) (ins its : List Source) (pins joined : List Signal) → ScanPair a r b s → length pins ≡ length r → length joined ≡ length s →
    ((old : ℕ) → old < length r → is_output_at r old ≡ true → IsOutput gap k (pin_at pins old) (pin_at joined (old + 2))) → Drives gap k i a r b s ins its pins joined
scan_carries gap k i _ _ _ _ ins its pins joined Plain h g fits =
    let l : ListOf3 pins = three pins h in
    let m : ListOf5 joined = five joined g in
    let out : IsOutput gap k l.2 m.4 = subst (λ (qs : List Signal). IsOutput gap k (pin_at qs 2) m.4) l.3 (subst (λ (ps : List Signal). IsOutput gap k (pin_at pins 2) (pin_at ps 4)) m.5 (fits 2 (omega arith) refl)) in
    subst (λ (qs : List Signal). Drives gap k i (plain_flop force.Nothing) (Clock ∷ Din ∷ Output ∷ []) (scan_flop force.Nothing) (Clock ∷ Din ∷ ScanIn ∷ ScanEnable ∷ Output ∷ []) ins its qs joined) (sym l.3)
    (subst (λ (ps : List Signal). Drives gap k i (plain_flop force.Nothing) (Clock ∷ Din ∷ Output ∷ []) (scan_flop force.Nothing) (Clock ∷ Din ∷ ScanIn ∷ ScanEnable ∷ Output ∷ []) ins its (l.0 ∷ l.1 ∷ l.2 ∷ []) ps) (sym m.5) (one_carries gap k i l.2 m.4 out))
scan_carries gap k i _ _ _ _ ins its pins joined PlainBoth h g fits =
    let l : ListOf4 pins = four pins h in
    let m : ListOf6 joined = six joined g in
    let out : IsOutput gap k l.2 m.e = subst (λ (qs : List Signal). IsOutput gap k (pin_at qs 2) m.e) l.4 (subst (λ (ps : List Signal). IsOutput gap k (pin_at pins 2) (pin_at ps 4)) m.is (fits 2 (omega arith) refl)) in
    let inv : IsOutput gap k l.3 m.f = subst (λ (qs : List Signal). IsOutput gap k (pin_at qs 3) m.f) l.4 (subst (λ (ps : List Signal). IsOutput gap k (pin_at pins 3) (pin_at ps 5)) m.is (fits 3 (omega arith) refl)) in
    subst (λ (qs : List Signal). Drives gap k i (plain_flop force.Nothing) (Clock ∷ Din ∷ Output ∷ Inverted ∷ []) (scan_flop force.Nothing) (Clock ∷ Din ∷ ScanIn ∷ ScanEnable ∷ Output ∷ Inverted ∷ []) ins its qs joined) (sym l.4)
    (subst (λ (ps : List Signal). Drives gap k i (plain_flop force.Nothing) (Clock ∷ Din ∷ Output ∷ Inverted ∷ []) (scan_flop force.Nothing) (Clock ∷ Din ∷ ScanIn ∷ ScanEnable ∷ Output ∷ Inverted ∷ []) ins its (l.0 ∷ l.1 ∷ l.2 ∷ l.3 ∷ []) ps) (sym m.is) (both_carry gap k i l.2 m.e l.3 m.f out inv))
scan_carries gap k i _ _ _ _ ins its pins joined Resets h g fits =
    let l : ListOf4 pins = four pins h in
    let m : ListOf6 joined = six joined g in
    let out : IsOutput gap k l.3 m.f = subst (λ (qs : List Signal). IsOutput gap k (pin_at qs 3) m.f) l.4 (subst (λ (ps : List Signal). IsOutput gap k (pin_at pins 3) (pin_at ps 5)) m.is (fits 3 (omega arith) refl)) in
    subst (λ (qs : List Signal). Drives gap k i (plain_flop force.Reset) (Clock ∷ Din ∷ Reset ∷ Output ∷ []) (scan_flop force.Reset) (Clock ∷ Din ∷ Reset ∷ ScanIn ∷ ScanEnable ∷ Output ∷ []) ins its qs joined) (sym l.4)
    (subst (λ (ps : List Signal). Drives gap k i (plain_flop force.Reset) (Clock ∷ Din ∷ Reset ∷ Output ∷ []) (scan_flop force.Reset) (Clock ∷ Din ∷ Reset ∷ ScanIn ∷ ScanEnable ∷ Output ∷ []) ins its (l.0 ∷ l.1 ∷ l.2 ∷ l.3 ∷ []) ps) (sym m.is) (one_carries gap k i l.3 m.f out))
scan_carries gap k i _ _ _ _ ins its pins joined ResetsBoth h g fits =
    let l : ListOf5 pins = five pins h in
    let m : ListOf7 joined = seven joined g in
    let out : IsOutput gap k l.3 m.f = subst (λ (qs : List Signal). IsOutput gap k (pin_at qs 3) m.f) l.5 (subst (λ (ps : List Signal). IsOutput gap k (pin_at pins 3) (pin_at ps 5)) m.is (fits 3 (omega arith) refl)) in
    let inv : IsOutput gap k l.4 m.g = subst (λ (qs : List Signal). IsOutput gap k (pin_at qs 4) m.g) l.5 (subst (λ (ps : List Signal). IsOutput gap k (pin_at pins 4) (pin_at ps 6)) m.is (fits 4 (omega arith) refl)) in
    subst (λ (qs : List Signal). Drives gap k i (plain_flop force.Reset) (Clock ∷ Din ∷ Reset ∷ Output ∷ Inverted ∷ []) (scan_flop force.Reset) (Clock ∷ Din ∷ Reset ∷ ScanIn ∷ ScanEnable ∷ Output ∷ Inverted ∷ []) ins its qs joined) (sym l.5)
    (subst (λ (ps : List Signal). Drives gap k i (plain_flop force.Reset) (Clock ∷ Din ∷ Reset ∷ Output ∷ Inverted ∷ []) (scan_flop force.Reset) (Clock ∷ Din ∷ Reset ∷ ScanIn ∷ ScanEnable ∷ Output ∷ Inverted ∷ []) ins its (l.0 ∷ l.1 ∷ l.2 ∷ l.3 ∷ l.4 ∷ []) ps) (sym m.is) (both_carry gap k i l.3 m.f l.4 m.g out inv))
scan_carries gap k i _ _ _ _ ins its pins joined Sets h g fits =
    let l : ListOf4 pins = four pins h in
    let m : ListOf6 joined = six joined g in
    let out : IsOutput gap k l.3 m.f = subst (λ (qs : List Signal). IsOutput gap k (pin_at qs 3) m.f) l.4 (subst (λ (ps : List Signal). IsOutput gap k (pin_at pins 3) (pin_at ps 5)) m.is (fits 3 (omega arith) refl)) in
    subst (λ (qs : List Signal). Drives gap k i (plain_flop force.Set) (Clock ∷ Din ∷ Preset ∷ Output ∷ []) (scan_flop force.Set) (Clock ∷ Din ∷ Preset ∷ ScanIn ∷ ScanEnable ∷ Output ∷ []) ins its qs joined) (sym l.4)
    (subst (λ (ps : List Signal). Drives gap k i (plain_flop force.Set) (Clock ∷ Din ∷ Preset ∷ Output ∷ []) (scan_flop force.Set) (Clock ∷ Din ∷ Preset ∷ ScanIn ∷ ScanEnable ∷ Output ∷ []) ins its (l.0 ∷ l.1 ∷ l.2 ∷ l.3 ∷ []) ps) (sym m.is) (one_carries gap k i l.3 m.f out))
scan_carries gap k i _ _ _ _ ins its pins joined SetsBoth h g fits =
    let l : ListOf5 pins = five pins h in
    let m : ListOf7 joined = seven joined g in
    let out : IsOutput gap k l.3 m.f = subst (λ (qs : List Signal). IsOutput gap k (pin_at qs 3) m.f) l.5 (subst (λ (ps : List Signal). IsOutput gap k (pin_at pins 3) (pin_at ps 5)) m.is (fits 3 (omega arith) refl)) in
    let inv : IsOutput gap k l.4 m.g = subst (λ (qs : List Signal). IsOutput gap k (pin_at qs 4) m.g) l.5 (subst (λ (ps : List Signal). IsOutput gap k (pin_at pins 4) (pin_at ps 6)) m.is (fits 4 (omega arith) refl)) in
    subst (λ (qs : List Signal). Drives gap k i (plain_flop force.Set) (Clock ∷ Din ∷ Preset ∷ Output ∷ Inverted ∷ []) (scan_flop force.Set) (Clock ∷ Din ∷ Preset ∷ ScanIn ∷ ScanEnable ∷ Output ∷ Inverted ∷ []) ins its qs joined) (sym l.5)
    (subst (λ (ps : List Signal). Drives gap k i (plain_flop force.Set) (Clock ∷ Din ∷ Preset ∷ Output ∷ Inverted ∷ []) (scan_flop force.Set) (Clock ∷ Din ∷ Preset ∷ ScanIn ∷ ScanEnable ∷ Output ∷ Inverted ∷ []) ins its (l.0 ∷ l.1 ∷ l.2 ∷ l.3 ∷ l.4 ∷ []) ps) (sym m.is) (both_carry gap k i l.3 m.f l.4 m.g out inv))
