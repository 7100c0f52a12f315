-- A made ring is in range: its taps and injectors are stages of it and differ, and each phase set is a set of its stages.
use Rattle.std.proofs.Common.{◌≡◌, ℕ, zero, suc, ◌+◌, ◌-◌, ◌*◌, ◌/◌, ◌%◌, ◌<◌, ◌≤◌, ◌==◌, ◌⊎◌, inl, inr, Bool, true, false, cond, not, ◌&&◌, ◌||◌, List, [], ◌∷◌, ◌++◌, length, take, find, Option, None, Some, refl, sym, ◌∙◌, ap, subst, arith, length-append}
use Rattle.std.specs.Prelude.{flat_map}
use Rattle.std.specs.List.{All, AllByRecursion, range_with_len}
use Rattle.std.proofs.Math.Nat.{div-lt_iff_lt-mul, mod-lt}
use Rattle.std.proofs.lemmas.Bool.Decides.{nat_tests}
use Rattle.std.proofs.lemmas.List.Elements.{All-from_get_or, All-from_recursion}
use Rattle.std.proofs.lemmas.List.FromFn.{length-map-range_with_len}
use Rattle.dft_config.specs.declared.config.Injector.{Injector}
use Rattle.dft_config.specs.declared.config.RingConfig.{RingConfig}
use Rattle.dft_config.specs.declared.config.Tap.{Tap}
use Rattle.dft_config.specs.Range.{IsRingInRange, IsSet, all_differ, has, same_injector, same_tap}
use Rattle.dft_decompressor.specs.declared.fits.Fitting.{Fitting}
use Rattle.dft_decompressor.specs.Fits.{FirstFit, Fits, HasNone, NoSize, TooSmall}
use Rattle.dft_decompressor.specs.Phases.{ArePhases, Ended, FirstFull, Full, FullPass, Leaves, NoPass, Pass, ShortPass, Takes, Wish, next_set, next_state}
use Rattle.dft_decompressor.specs.Rings.{AreInjectors, around, injector_at, injectors_each, is_entered, is_free, is_held, start_of, taps_of}
use Rattle.dft_decompressor.specs.Sizes.{sizes}
use Rattle.dft_decompressor.specs.StageSets.{threes, threes_after, threes_with}
use Rattle.dft_configuring.specs.Made.{IsRing}
use Rattle.dft_configuring.proofs.GroupsRange.{each_on}
use Rattle.rand_pcg.specs.Lcg.{Lcg}
use Rattle.std.proofs.lemmas.Bool.{and_right, or_parts}
use Rattle.dft_base.proofs.ListLemmas.{all_append}
use Rattle.dft_base.proofs.NumberLemmas.{more_apart, same_or_past}

-- ---- lists

each_flat : {X : Type 0} (P : X → Type 0) (f : ℕ → List X) (a n : ℕ) → ((k : ℕ) → a ≤ k → k < a + n → AllByRecursion P (f k)) → AllByRecursion P (flat_map f (range_with_len a n))
each_flat P f a zero each = tt
each_flat P f a (suc n) each =
    all_append P (f a) (flat_map f (range_with_len (a + 1) n)) (each a (omega arith) (omega arith)) (each_flat P f (a + 1) n (λ k low high. each k (omega (arith, low)) (omega (arith, high))))

some_by : {X : Type 0} (f : ℕ → List X) (a n k : ℕ) → 0 < length (f k) → (a ≡ k) ⊎ (0 < length (flat_map f (range_with_len (a + 1) n))) → 0 < length (flat_map f (range_with_len a (suc n)))
some_by f a n k some (inl same) =
    let count = length-append (f a) (flat_map f (range_with_len (a + 1) n)) in
    let here : 0 < length (f a) = subst (λ (m : ℕ). 0 < length (f m)) (sym same) some in
    omega (arith, count, here)
some_by f a n k some (inr rest) = let count = length-append (f a) (flat_map f (range_with_len (a + 1) n)) in omega (arith, count, rest)

flat_some : {X : Type 0} (f : ℕ → List X) (a n k : ℕ) → a ≤ k → k < a + n → 0 < length (f k) → 0 < length (flat_map f (range_with_len a n))
flat_some f a zero k low high some = absurd (omega (arith, low, high))
flat_some f a (suc n) k low high some = some_by f a n k some (elim (same_or_past a k low) [
  | inl same ↦ inl same
  | inr past ↦ inr (flat_some f (a + 1) n k past (omega (arith, high)) some)
])

-- the first item that passes does, and is one of the list
found_by : (P : ℕ → Type 0) (p : ℕ → Bool) (y x : ℕ) (rest : Option ℕ) (b : Bool) → p y ≡ b → P y → cond b (Some y) rest ≡ Some x → (rest ≡ Some x → (p x ≡ true) × P x) → (p x ≡ true) × P x
found_by P p y x rest true is good here later = let same : y ≡ x = cc in subst (λ (z : ℕ). (p z ≡ true) × P z) same (is, good)
found_by P p y x rest false is good here later = later here

found_good : (P : ℕ → Type 0) (p : ℕ → Bool) (xs : List ℕ) (x : ℕ) → AllByRecursion P xs → find p xs ≡ Some x → (p x ≡ true) × P x
found_good P p [] x all is = absurd cc
found_good P p (y ∷ xs) x all is = found_by P p y x (find p xs) (p y) refl all.0 is (λ later. found_good P p xs x all.1 later)

-- ---- phase sets

three_set : (stages a b c : ℕ) → a < b → b < c → c < stages → IsSet stages (a ∷ b ∷ c ∷ [])
three_set stages a b c first second last = record {
  some = omega arith;
  below = All-from_recursion (λ n. n < stages) (a ∷ b ∷ c ∷ []) (omega (arith, first, second, last), (omega (arith, second, last), (last, tt)));
  differ = (λ i. not (more_apart a b first i || (more_apart a c (omega (arith, first, second)) i || false)) && (not (more_apart b c second i || false) && true));
}

threes_sets : (stages : ℕ) → AllByRecursion (IsSet stages) (threes stages)
unfolding threes
threes_sets stages =
    each_flat (IsSet stages) (threes_after stages) 0 stages
    (λ a least most.
    each_flat (IsSet stages) (threes_with stages a) (a + 1) (stages - (a + 1))
    (λ b low high.
    each_on (IsSet stages) (λ third. a ∷ b ∷ third ∷ []) (b + 1) (stages - (b + 1)) (λ c under over. three_set stages a b c (omega (arith, low)) (omega (arith, under)) (omega (arith, under, over)))))

threes_some : (stages : ℕ) → 3 ≤ stages → 0 < length (threes stages)
unfolding threes
threes_some stages least =
    let count = length-map-range_with_len (λ third. 0 ∷ 1 ∷ third ∷ []) 2 (stages - 2) in
    flat_some (threes_after stages) 0 stages 0 (omega arith) (omega (arith, least))
    (flat_some (threes_with stages 0) 1 (stages - 1) 1 (omega arith) (omega (arith, least)) (omega (arith, count, least)))

next_is : (wish : Wish) (random : Lcg) → 3 ≤ wish.stages → IsSet wish.stages (next_set wish random)
next_is wish random least =
    All-from_recursion (IsSet wish.stages) (threes wish.stages) (threes_sets wish.stages) _ [] (mod-lt _ (threes_some wish.stages least))

pass_sets : (wish : Wish) (left : ℕ) (random : Lcg) (taken all : List (List ℕ)) → 3 ≤ wish.stages → Pass wish left random taken all → AllByRecursion (IsSet wish.stages) taken → AllByRecursion (IsSet wish.stages) all
pass_sets wish left random taken all least (Full count) good = good
pass_sets wish left random taken all least Ended good = good
pass_sets wish (suc left) random taken all least (Takes less may rest) good =
    pass_sets wish left (next_state random) (taken ++ next_set wish random ∷ []) all least rest (all_append (IsSet wish.stages) taken (next_set wish random ∷ []) good (next_is wish random least, tt))
pass_sets wish (suc left) random taken all least (Leaves less may rest) good = pass_sets wish left (next_state random) taken all least rest good

abbrev HaveSets : (stages chains : ℕ) → Option (List (List ℕ)) → Type 0
HaveSets stages chains None = Unit {0}
HaveSets stages chains (Some sets) = (length sets ≡ chains) × AllByRecursion (IsSet stages) sets

full_sets : (stages chains passes slack : ℕ) (found : Option (List (List ℕ))) → 3 ≤ stages → FirstFull stages chains passes slack found → HaveSets stages chains found
full_sets stages chains passes slack None least NoPass = tt
full_sets stages chains (suc passes) slack (Some sets) least (FullPass pass count) = (count, pass_sets _ _ _ [] sets least pass tt)
full_sets stages chains (suc passes) slack found least (ShortPass pass less rest) = full_sets stages chains passes (suc slack) found least rest

-- ---- sizes

abbrev Among : ℕ → List ℕ → Type 0
Among x [] = ⊥
Among x (y ∷ ys) = (y ≡ x) ⊎ Among x ys

abbrev FitsIn : (chains : ℕ) (list : List ℕ) → Option Fitting → Type 0
FitsIn chains list None = Unit {0}
FitsIn chains list (Some fitting) = Among fitting.stages list × ArePhases fitting.stages chains (Some fitting.phase)

fits_later : (chains size : ℕ) (list : List ℕ) (found : Option Fitting) → FitsIn chains list found → FitsIn chains (size ∷ list) found
fits_later chains size list None there = tt
fits_later chains size list (Some fitting) there = (inr there.0, there.1)

fits_in : (need chains : ℕ) (list : List ℕ) (found : Option Fitting) → FirstFit need chains list found → FitsIn chains list found
fits_in need chains [] None NoSize = tt
fits_in need chains [] (Some fitting) x = elim x [ ]
fits_in need chains (size ∷ list) found (TooSmall less rest) = fits_later chains size list found (fits_in need chains list found rest)
fits_in need chains (size ∷ list) (Some fitting) (Fits large phases) = (inl refl, phases)
fits_in need chains (size ∷ list) found (HasNone large none rest) = fits_later chains size list found (fits_in need chains list found rest)

-- ---- taps

abbrev TapsIn : ℕ → Type 0
TapsIn stages = ((8 ≤ stages) × (stages ≤ 128)) × (AllByRecursion (λ tap. (tap.from < stages) × (tap.to < stages)) (taps_of stages) × (all_differ same_tap (taps_of stages) ≡ true))

size_taps : (stages : ℕ) → Among stages sizes → TapsIn stages
unfolding taps_of
size_taps stages (inl is) = subst TapsIn is ((omega arith, omega arith), (((omega arith, omega arith), ((omega arith, omega arith), ((omega arith, omega arith), tt))), refl))
size_taps stages (inr (inl is)) = subst TapsIn is ((omega arith, omega arith), (((omega arith, omega arith), ((omega arith, omega arith), ((omega arith, omega arith), tt))), refl))
size_taps stages (inr (inr (inl is))) = subst TapsIn is ((omega arith, omega arith), (((omega arith, omega arith), ((omega arith, omega arith), ((omega arith, omega arith), tt))), refl))
size_taps stages (inr (inr (inr (inl is)))) = subst TapsIn is ((omega arith, omega arith), (((omega arith, omega arith), ((omega arith, omega arith), ((omega arith, omega arith), tt))), refl))
size_taps stages (inr (inr (inr (inr (inl is))))) = subst TapsIn is ((omega arith, omega arith), (((omega arith, omega arith), ((omega arith, omega arith), ((omega arith, omega arith), tt))), refl))
size_taps stages (inr (inr (inr (inr (inr (inl is)))))) = subst TapsIn is ((omega arith, omega arith), (((omega arith, omega arith), ((omega arith, omega arith), ((omega arith, omega arith), tt))), refl))
size_taps stages (inr (inr (inr (inr (inr (inr (inl is))))))) = subst TapsIn is ((omega arith, omega arith), (((omega arith, omega arith), ((omega arith, omega arith), ((omega arith, omega arith), tt))), refl))
size_taps stages (inr (inr (inr (inr (inr (inr (inr (inl is)))))))) = subst TapsIn is ((omega arith, omega arith), (((omega arith, omega arith), ((omega arith, omega arith), ((omega arith, omega arith), tt))), refl))
size_taps stages (inr (inr (inr (inr (inr (inr (inr (inr none)))))))) = absurd none

-- ---- injectors

free_not : (entered held : Bool) → (not entered && not held) ≡ true → held ≡ false
free_not true held is = absurd cc
free_not false true is = absurd cc
free_not false false is = refl

around_below : (stages start : ℕ) → 1 ≤ stages → AllByRecursion (λ s. s < stages) (around stages start)
around_below stages start some = each_on (λ s. s < stages) (λ distance. (start + distance) % stages) 0 stages (λ k low high. mod-lt (start + k) (omega (arith, some)))

never_less : (channels number : ℕ) → number < channels * 0 → ⊥
never_less zero number less = omega (arith, less)
never_less (suc channels) number less = never_less channels number (omega (arith, less))

count_some : (channels each number : ℕ) → number < channels * each → 0 < each
count_some channels zero number less = absurd (never_less channels number less)
count_some channels (suc each) number less = omega arith

channel_less : (channels each number : ℕ) → number < channels * each → number / each < channels
channel_less channels each number less = (div-lt_iff_lt-mul (count_some channels each number less)).1 less

turned : (a b : ℕ) → (a == b) ≡ false → (b == a) ≡ false
turned a b is = grind (arith, nat_tests, is)

none_same : (x : Injector) (xs : List Injector) → ((k : ℕ) → k < length xs → (x.stage == (injector_at xs k).stage) ≡ false) → has same_injector xs x ≡ false
none_same x [] apart = refl
none_same x (y ∷ xs) apart =
    (λ i. and_right (y.channel == x.channel) (y.stage == x.stage) (turned x.stage y.stage (apart 0 (omega arith))) i || none_same x xs (λ k less. apart (suc k) (omega (arith, less))) i)

differ_all : (xs : List Injector) → ((k : ℕ) → k < length xs → is_held (take k xs) (injector_at xs k).stage ≡ false) → all_differ same_injector xs ≡ true
differ_all [] apart = refl
differ_all (x ∷ xs) apart =
    let split : (k : ℕ) → k < length xs → ((x.stage == (injector_at xs k).stage) ≡ false) × (is_held (take k xs) (injector_at xs k).stage ≡ false) =
    λ k less. or_parts (x.stage == (injector_at xs k).stage) (is_held (take k xs) (injector_at xs k).stage) (apart (suc k) (omega (arith, less))) in
    (λ i. not (none_same x xs (λ k less. (split k less).0) i) && differ_all xs (λ k less. (split k less).1) i)

module _ (stages inputs : ℕ) (injectors : List Injector) (some : 1 ≤ stages) (are : AreInjectors stages inputs injectors) where
  stage_is : (number : ℕ) → number < length injectors → (is_free (taps_of stages) (take number injectors) (injector_at injectors number).stage ≡ true) × ((injector_at injectors number).stage < stages)
  stage_is number less =
      let count = are.count in
      found_good (λ s. s < stages) (is_free (taps_of stages) (take number injectors)) (around stages (start_of stages inputs number)) (injector_at injectors number).stage
      (around_below stages (start_of stages inputs number) some) (are.each number (omega (arith, count, less))).stage

  injector_is : (number : ℕ) → number < length injectors → ((injector_at injectors number).channel < inputs) × ((injector_at injectors number).stage < stages)
  injector_is number less =
      let count = are.count in
      let within : number < inputs * injectors_each stages inputs = omega (arith, count, less) in
      (subst (λ (c : ℕ). c < inputs) (sym (are.each number within).channel) (channel_less inputs (injectors_each stages inputs) number within), (stage_is number less).1)

  held_not : (number : ℕ) → number < length injectors → is_held (take number injectors) (injector_at injectors number).stage ≡ false
  held_not number less =
      let stage = (injector_at injectors number).stage in
      free_not (is_entered (taps_of stages) stage) (is_held (take number injectors) stage) (stage_is number less).0

-- ---- the ring

ring_by : (chains inputs : ℕ) (ring : RingConfig) → 1 ≤ inputs → inputs ≤ 32 → IsRing chains inputs ring → TapsIn ring.stages → HaveSets ring.stages chains (Some ring.phase) → IsRingInRange chains ring
ring_by chains inputs ring some most is taps sets =
    let low = taps.0.0 in
    let high = taps.0.1 in
    let few = is.channels in
    let one : 1 ≤ ring.stages = omega (arith, low) in
    record {
      stages = (omega (arith, low), high);
      channels = (omega (arith, few, some), omega (arith, few, most));
      taps = subst (λ (list : List Tap). All (λ tap. (tap.from < ring.stages) × (tap.to < ring.stages)) list) (sym is.taps) (All-from_recursion (λ tap. (tap.from < ring.stages) × (tap.to < ring.stages)) (taps_of ring.stages) taps.1.0);
      taps_differ = ap (all_differ same_tap) is.taps ∙ taps.1.1;
      injectors = subst (λ (count : ℕ). All (λ injector. (injector.channel < count) × (injector.stage < ring.stages)) ring.injectors) (sym few)
          (All-from_get_or (λ injector. (injector.channel < inputs) × (injector.stage < ring.stages)) ring.injectors (record { channel = 0; stage = 0 }) (injector_is ring.stages inputs ring.injectors one is.injectors));
      injectors_differ = differ_all ring.injectors (held_not ring.stages inputs ring.injectors one is.injectors);
      phases = sets.0;
      phase = All-from_recursion (IsSet ring.stages) ring.phase sets.1;
    }

pub ring_range : (chains inputs : ℕ) (ring : RingConfig) → 1 ≤ inputs → inputs ≤ 32 → IsRing chains inputs ring → IsRingInRange chains ring
ring_range chains inputs ring some most is =
    let fits = fits_in _ chains sizes (Some (record { stages = ring.stages; phase = ring.phase })) is.fits in
    let taps = size_taps ring.stages fits.0 in
    let low = taps.0.0 in
    ring_by chains inputs ring some most is taps (full_sets ring.stages chains 4 0 (Some ring.phase) (omega (arith, low)) fits.1)
