-- Patterns of sound cubes are sound.
use Rattle.std.proofs.Common.{ℕ, zero, suc, Bool, true, false, cond, List, [], ◌∷◌, ◌++◌, ◌≡◌, ◌<◌, ◌==◌, length, refl, sym, ap, subst, arith, ◌∙◌, inl, inr, Option, Some, None, is_none, slice_get, slice_set}
use Rattle.std.specs.Prelude.{IsSome, option_and_then}
use Rattle.std.proofs.lemmas.Bool.{cases_eq, eq-eqb, eqb-true}
use Rattle.std.proofs.lemmas.Option.{none-some, same_Some}
use Rattle.std.specs.List.{AllByRecursion}
use Rattle.dft_base.proofs.ListLemmas.{all_append}
use Rattle.dft_netlist.specs.declared.ids.InstanceId.{InstanceId}
use Rattle.dft_netlist.specs.declared.ids.NetId.{NetId}
use Rattle.dft_netlist.specs.Netlist.{Netlist}
use Rattle.dft_netlist.specs.Connections.{is_input}
use Rattle.dft_netlist.specs.Drivers.{driver}
use Rattle.dft_netlist.specs.Names.{instance_name}
use Rattle.dft_netlist.proofs.DriveLemmas.{get_set_same, get_set_other}
use Rattle.dft_config.specs.Config.{Config}
use Rattle.dft_rules.specs.ConfigPorts.{config_ports}
use Rattle.dft_cubes.specs.declared.cube.Cube.{Cube}
use Rattle.dft_cubes.specs.declared.cube.Merged.{Merged}
use Rattle.dft_cubes.specs.Laws.{IsCube}
use Rattle.dft_merge.specs.declared.placed.Placed.{Placed}
use Rattle.dft_merge.specs.declared.placed.Placed.TheVariants.{Into, Unsolvable, Skipped}
use Rattle.dft_merge.specs.Rows.{CellRows, or_else}
use Rattle.dft_merge.specs.Placement.{Places, PlacesAll, begun, bit_in, cell_number, joined, missing, port_number}
use Rattle.dft_merge.specs.Staying.{IsMerged, PatternsAreSound}
use Rattle.dft_merge.proofs.BitLemmas.{bit_held, bit_in-append, each_missing}
use Rattle.dft_merge.proofs.SlotLemmas.{push_each}
use Rattle.dft_merge.proofs.StayLemmas.{HasEntry, own_entries}

-- ---- numbers that differ

Differ : {T : Type 0} → (T → ℕ) → List (T × Bool) → Type 0
Differ number [] = Unit {0}
Differ number (x ∷ xs) = (bit_in number xs (number x.0) ≡ None) × Differ number xs

-- the same, by places
abbrev AreOnce : {T : Type 0} → (T → ℕ) → List (T × Bool) → Type 0
AreOnce number xs = (j k : ℕ) (a b : _) → slice_get xs j ≡ Some a → slice_get xs k ≡ Some b → number a.0 ≡ number b.0 → j ≡ k

none_by : {A : Type 0} (o : Option A) → ((a : A) → o ≡ Some a → ⊥) → o ≡ None
none_by None never = refl
none_by (Some a) never = absurd (never a refl)

differ_of : {T : Type 0} (number : T → ℕ) (xs : List (T × Bool)) → AreOnce number xs → Differ number xs
unfolding Differ
differ_of number [] once = tt
differ_of number (x ∷ xs) once = (
  none_by (bit_in number xs (number x.0)) (λ b is.
      let e = bit_held number (HasEntry number xs) xs (number x.0) b (own_entries number xs) is in
      let same : zero ≡ suc e.place = once zero (suc e.place) x e.entry refl e.at (sym e.is_number) in
      omega (arith, same)),
  differ_of number xs (λ j k a b at_j at_k same. (let e = once (suc j) (suc k) a b at_j at_k same in omega (arith, e))),
)

rest_none : {A : Type 0} (t : Bool) (b : A) (o : Option A) → cond t (Some b) o ≡ None → o ≡ None
rest_none true b o h = absurd (none-some b (sym h))
rest_none false b o h = h

first_other : {A : Type 0} (t : Bool) (b : A) (o : Option A) → cond t (Some b) o ≡ None → t ≡ true → ⊥
first_other true b o h is = none-some b (sym h)
first_other false b o h is = cc

not_given : {T : Type 0} (number : T → ℕ) (xs : List (T × Bool)) (m k : ℕ) (a : T × Bool) → bit_in number xs m ≡ None → slice_get xs k ≡ Some a → number a.0 ≡ m → ⊥
not_given number [] m k a none at same = none-some a at
not_given number (x ∷ xs) m zero a none at same =
    first_other (number x.0 == m) x.1 (bit_in number xs m) none (eq-eqb (number x.0) m (ap (λ (g : _ × Bool). number g.0) (same_Some x a at) ∙ same))
not_given number (x ∷ xs) m (suc k) a none at same = not_given number xs m k a (rest_none (number x.0 == m) x.1 (bit_in number xs m) none) at same

once_of : {T : Type 0} (number : T → ℕ) (xs : List (T × Bool)) → Differ number xs → AreOnce number xs
unfolding Differ
once_of number [] differ j k a b at_j at_k same = absurd (none-some a at_j)
once_of number (x ∷ xs) differ zero zero a b at_j at_k same = refl
once_of number (x ∷ xs) differ zero (suc k) a b at_j at_k same =
    absurd (not_given number xs (number x.0) k b differ.0 at_k (sym same ∙ ap (λ (g : _ × Bool). number g.0) (sym (same_Some x a at_j))))
once_of number (x ∷ xs) differ (suc j) zero a b at_j at_k same =
    absurd (not_given number xs (number x.0) j a differ.0 at_j (same ∙ ap (λ (g : _ × Bool). number g.0) (sym (same_Some x b at_k))))
once_of number (x ∷ xs) differ (suc j) (suc k) a b at_j at_k same = ap suc (once_of number xs differ.1 j k a b at_j at_k same)

-- ---- what a cube adds

apart_case : {T : Type 0} (number : T → ℕ) (g : T × Bool) (new : List (T × Bool)) (m : ℕ) (o : Option Bool) (t : Bool) → (number g.0 == m) ≡ t → (t ≡ true → o ≡ None → ⊥) → bit_in number new m ≡ None → bit_in number (cond (is_none o) (g ∷ new) new) m ≡ None
apart_case number g new m None true is other none = absurd (other refl refl)
apart_case number g new m None false is other none = ap (λ (t : Bool). cond t (Some g.1) (bit_in number new m)) is ∙ none
apart_case number g new m (Some a) t is other none = none

-- it is nothing that the pattern gives
missing_apart : {T : Type 0} (number : T → ℕ) (pattern cube : List (T × Bool)) (m : ℕ) → (bit_in number pattern m ≡ None → ⊥) → bit_in number (missing number pattern cube) m ≡ None
missing_apart number pattern [] m some = refl
missing_apart number pattern (g ∷ cube) m some =
    apart_case number g (missing number pattern cube) m (bit_in number pattern (number g.0)) (number g.0 == m) refl
    (λ same none. some (ap (bit_in number pattern) (sym (eqb-true (number g.0) m same)) ∙ none)) (missing_apart number pattern cube m some)

none_case : {T : Type 0} (number : T → ℕ) (g : T × Bool) (new : List (T × Bool)) (m : ℕ) (keep : Bool) (t : Bool) → (number g.0 == m) ≡ t → (t ≡ true → ⊥) → bit_in number new m ≡ None → bit_in number (cond keep (g ∷ new) new) m ≡ None
none_case number g new m false t is other none = none
none_case number g new m true true is other none = absurd (other refl)
none_case number g new m true false is other none = ap (λ (t : Bool). cond t (Some g.1) (bit_in number new m)) is ∙ none

missing_none : {T : Type 0} (number : T → ℕ) (pattern cube : List (T × Bool)) (m : ℕ) → bit_in number cube m ≡ None → bit_in number (missing number pattern cube) m ≡ None
missing_none number pattern [] m none = refl
missing_none number pattern (g ∷ cube) m none =
    none_case number g (missing number pattern cube) m (is_none (bit_in number pattern (number g.0))) (number g.0 == m) refl (first_other (number g.0 == m) g.1 (bit_in number cube m) none)
    (missing_none number pattern cube m (rest_none (number g.0 == m) g.1 (bit_in number cube m) none))

keep_case : {T : Type 0} (number : T → ℕ) (g : T × Bool) (new : List (T × Bool)) (keep : Bool) → bit_in number new (number g.0) ≡ None → Differ number new → Differ number (cond keep (g ∷ new) new)
unfolding Differ
keep_case number g new true none differ = (none, differ)
keep_case number g new false none differ = differ

differ_missing : {T : Type 0} (number : T → ℕ) (pattern cube : List (T × Bool)) → Differ number cube → Differ number (missing number pattern cube)
unfolding Differ
differ_missing number pattern [] differ = tt
differ_missing number pattern (g ∷ cube) differ =
    keep_case number g (missing number pattern cube) (is_none (bit_in number pattern (number g.0))) (missing_none number pattern cube (number g.0) differ.0) (differ_missing number pattern cube differ.1)

differ_join : {T : Type 0} (number : T → ℕ) (xs ys : List (T × Bool)) → Differ number xs → Differ number ys → ((m : ℕ) → (bit_in number xs m ≡ None → ⊥) → bit_in number ys m ≡ None) → Differ number (xs ++ ys)
unfolding Differ
differ_join number [] ys left right apart = right
differ_join number (x ∷ xs) ys left right apart = (
  bit_in-append number xs ys (number x.0) ∙ ap (λ (o : Option Bool). or_else o (bit_in number ys (number x.0))) left.0
      ∙ apart (number x.0) (λ none. first_other (number x.0 == number x.0) x.1 (bit_in number xs (number x.0)) none (eq-eqb (number x.0) (number x.0) refl)),
  differ_join number xs ys left.1 right (λ m some. apart m (λ none. some (rest_none (number x.0 == m) x.1 (bit_in number xs m) none))),
)

once_joined : {T : Type 0} (number : T → ℕ) (pattern cube : List (T × Bool)) → AreOnce number pattern → AreOnce number cube → AreOnce number (pattern ++ missing number pattern cube)
once_joined number pattern cube one other =
    once_of number (pattern ++ missing number pattern cube)
    (differ_join number pattern (missing number pattern cube) (differ_of number pattern one) (differ_missing number pattern cube (differ_of number cube other)) (missing_apart number pattern cube))

-- ---- each of a list, by places

abbrev Holds : {A : Type 0} → (A → Type 0) → List A → Type 0
Holds P xs = (k : ℕ) (a : _) → slice_get xs k ≡ Some a → P a

each_of : {A : Type 0} (P : A → Type 0) (xs : List A) → Holds P xs → AllByRecursion P xs
each_of P [] all = tt
each_of P (x ∷ xs) all = (all zero x refl, each_of P xs (λ k a at. all (suc k) a at))

of_each : {A : Type 0} (P : A → Type 0) (xs : List A) → AllByRecursion P xs → Holds P xs
of_each P [] each k a at = absurd (none-some a at)
of_each P (x ∷ xs) each zero a at = subst P (same_Some x a at) each.0
of_each P (x ∷ xs) each (suc k) a at = of_each P xs each.1 k a at

holds_joined : {T : Type 0} (number : T → ℕ) (P : T × Bool → Type 0) (pattern cube : List (T × Bool)) → Holds P pattern → Holds P cube → Holds P (pattern ++ missing number pattern cube)
holds_joined number P pattern cube one other =
    of_each P (pattern ++ missing number pattern cube) (all_append P pattern (missing number pattern cube) (each_of P pattern one) (each_missing number P pattern cube (each_of P cube other)))

-- ---- patterns

begun_sound : (n : Netlist) (config : Config) (cube : Cube) → IsCube n config cube → IsMerged n config (begun cube)
begun_sound n config cube is = record { domains = is.domains; cells = is.cells; ports = is.ports }

joined_sound : (n : Netlist) (config : Config) (pattern : Merged) (cube : Cube) → IsMerged n config pattern → IsCube n config cube → IsMerged n config (joined pattern cube)
joined_sound n config pattern cube is given = record {
  domains = is.domains;
  cells = record {
    once = once_joined cell_number pattern.cells cube.cells is.cells.once given.cells.once;
    live = holds_joined cell_number (λ (g : InstanceId × Bool). g.0.0 < length n.instances) pattern.cells cube.cells is.cells.live given.cells.live;
    named = holds_joined cell_number (λ (g : InstanceId × Bool). IsSome (option_and_then instance_name (slice_get n.instances g.0.0))) pattern.cells cube.cells is.cells.named given.cells.named;
  };
  ports = record {
    once = once_joined port_number pattern.ports cube.ports is.ports.once given.ports.once;
    live = holds_joined port_number (λ (g : NetId × Bool). g.0.0 < length n.nets) pattern.ports cube.ports is.ports.live given.ports.live;
    input = holds_joined port_number (λ (g : NetId × Bool). is_input (driver n g.0.0) ≡ true) pattern.ports cube.ports is.ports.input given.ports.input;
    no_clock = holds_joined port_number (λ (g : NetId × Bool). (config_ports n config).is_clock g.0.0 ≡ false) pattern.ports cube.ports is.ports.no_clock given.ports.no_clock;
    no_reset = holds_joined port_number (λ (g : NetId × Bool). (config_ports n config).is_reset g.0.0 ≡ false) pattern.ports cube.ports is.ports.no_reset given.ports.no_reset;
  };
}

abbrev AreSound : Netlist → Config → List Merged → Type 0
AreSound n config patterns = (p : ℕ) (pattern : Merged) → slice_get patterns p ≡ Some pattern → IsMerged n config pattern

-- what holds of each pattern holds behind a change of one, where it holds of the new one
pub kept_set : (P : Merged → Type 0) (patterns : List Merged) (p : ℕ) (old new : Merged) → slice_get patterns p ≡ Some old → P new → ((q : ℕ) (pattern : Merged) → slice_get patterns q ≡ Some pattern → P pattern) →
    (q : ℕ) (pattern : Merged) → slice_get (slice_set patterns p new) q ≡ Some pattern → P pattern
kept_set P patterns p old new at is all q pattern there = elim (cases_eq p q) [
  | inl same ↦ subst P (same_Some new pattern (sym (get_set_same patterns p old new at) ∙ ap (slice_get (slice_set patterns p new)) same ∙ there)) is
  | inr apart ↦ all q pattern (sym (get_set_other patterns p q new apart) ∙ there)
]

sound_set : (n : Netlist) (config : Config) (patterns : List Merged) (p : ℕ) (old new : Merged) → slice_get patterns p ≡ Some old → IsMerged n config new → AreSound n config patterns → AreSound n config (slice_set patterns p new)
sound_set n config patterns p old new at is all = kept_set (IsMerged n config) patterns p old new at is all

places_sound : (n : Netlist) (config : Config) (columns : ℕ) (row : CellRows) (window : ℕ) (old new : List Merged) (cube : Cube) (placed : Placed) → IsCube n config cube → Places columns row window old cube placed new → AreSound n config old → AreSound n config new
places_sound n config columns row window old new cube (Skipped cell) is places all = subst (AreSound n config) (sym places.1) all
places_sound n config columns row window old new cube (Into p) is (scanned, inl joins) all =
    subst (AreSound n config) (sym joins.patterns) (sound_set n config old p joins.pattern (joined joins.pattern cube) joins.is (joined_sound n config joins.pattern cube (all p joins.pattern joins.is) is) all)
places_sound n config columns row window old new cube (Into p) is (scanned, inr begins) all =
    subst (AreSound n config) (sym begins.patterns) (push_each (λ k pattern. IsMerged n config pattern) old (begun cube) all (begun_sound n config cube is))
places_sound n config columns row window old new cube (Unsolvable ids) is places all = subst (AreSound n config) (sym places.2) all

sound_from : (n : Netlist) (config : Config) (columns : ℕ) (row : CellRows) (window : ℕ) (old new : List Merged) (cubes : List Cube) (placed : List Placed) → Holds (IsCube n config) cubes → PlacesAll columns row window old cubes placed new →
    AreSound n config old → AreSound n config new
sound_from n config columns row window old new [] [] are places all = subst (AreSound n config) (sym places) all
sound_from n config columns row window old new [] (word ∷ placed) are places all = absurd places
sound_from n config columns row window old new (cube ∷ cubes) [] are places all = absurd places
sound_from n config columns row window old new (cube ∷ cubes) (word ∷ placed) are places all =
    sound_from n config columns row window places.0 new cubes placed (λ k a at. are (suc k) a at) places.1.1
    (places_sound n config columns row window old places.0 cube word (are zero cube refl) places.1.0 all)

pub patterns_sound : PatternsAreSound
patterns_sound n config columns row window cubes placed patterns are places =
    sound_from n config columns row window [] patterns cubes placed are.each places (λ p pattern at. absurd (none-some pattern at))
