-- The configuration of a shape that passes the test is in range.
use Rattle.std.proofs.Common.{ℕ, zero, suc, ◌≡◌, ◌==◌, ◌<◌, ◌≤◌, ◌^◌, Bool, true, false, not, ◌&&◌, IsTrue, List, [], ◌∷◌, length, get_or, nat_le, nat_lt, refl, sym, subst, ◌⊎◌, inl, inr, arith}
use Rattle.std.specs.List.{All, list_all, list_any}
use Rattle.std.specs.Str.{bytes_eq}
use Rattle.std.proofs.lemmas.Bool.{and_parts, not-true}
use Rattle.std.proofs.lemmas.Bool.Decides.{nat_tests}
use Rattle.std.proofs.lemmas.List.Sums.{AllPass-from_list_all}
use Rattle.dft_config.specs.declared.config.FillRule.{FillRule}
use Rattle.dft_config.specs.declared.config.FillRule.TheVariants.{Zeros, Ones, Seed}
use Rattle.dft_config.specs.declared.config.Tap.{Tap}
use Rattle.dft_config.specs.declared.config.Injector.{Injector}
use Rattle.dft_config.specs.declared.config.RingConfig.{RingConfig}
use Rattle.dft_config.specs.declared.config.CompactorConfig.{CompactorConfig}
use Rattle.dft_config.specs.Config.{Config}
use Rattle.dft_base.specs.Words.{is_simple_name, is_later_reserved, reserved_words, later_reserved_words}
use Rattle.dft_test_configs.specs.declared.shape.Shape.{Shape}
use Rattle.dft_test_configs.specs.Shapes.{port_names, config_of}
use Rattle.dft_config.specs.Range.{IsInRange, IsRingInRange, IsCompactorInRange, IsSet, IsSeedInRange, has, all_differ, same_number, names_of}
use Rattle.dft_test_configs.specs.Tests.{between, is_seed_in_range, is_set, tap_fits, injector_fits, are_reached, clocking_tests, loading_tests, ring_tests, compactor_tests, hold, is_in_range}

-- each test, one by one
abbrev Each : List Bool → Type 0
Each [] = Unit {0}
Each (test ∷ tests) = (test ≡ true) × Each tests

each : (tests : List Bool) → hold tests ≡ true → Each tests
each [] e = tt
each (test ∷ tests) e = let (here, rest) = and_parts test (hold tests) e in (here, each tests rest)

all : {X : Type 0} (p : X → Bool) (P : X → Type 0) → ((x : X) → p x ≡ true → P x) → (xs : List X) → list_all p xs ≡ true → All P xs
all p P is xs e k d less = is (get_or xs k d) (AllPass-from_list_all p xs e k d less)

within : (low high n : ℕ) → between low high n ≡ true → (low ≤ n) × (n ≤ high)
within low high n e = let (a, b) = and_parts (nat_le low n) (nat_le n high) e in (grind (arith, nat_tests), grind (arith, nat_tests))

at_most : (n high : ℕ) → nat_le n high ≡ true → n ≤ high
at_most n high e = grind (arith, nat_tests)

less : (n bound : ℕ) → nat_lt n bound ≡ true → n < bound
less n bound e = grind (arith, nat_tests)

same : (a b : ℕ) → (a == b) ≡ true → a ≡ b
same a b e = grind (arith, nat_tests)

seed_within : (fill : FillRule) → is_seed_in_range fill ≡ true → IsSeedInRange fill
seed_within Zeros e = tt
seed_within Ones e = tt
seed_within (Seed seed) e = less seed (2 ^ 63) e

set : (bound : ℕ) (numbers : List ℕ) → is_set bound numbers ≡ true → IsSet bound numbers
set bound numbers e =
    let (some, rest) = and_parts (nat_lt 0 (length numbers)) (list_all (λ n. nat_lt n bound) numbers && all_differ same_number numbers) e in
    let (below, differ) = and_parts (list_all (λ n. nat_lt n bound) numbers) (all_differ same_number numbers) rest in
    record { some = less 0 (length numbers) some; below = all (λ n. nat_lt n bound) (λ n. n < bound) (λ n t. less n bound t) numbers below; differ = differ }

tap : (stages : ℕ) (t : Tap) → tap_fits stages t ≡ true → (t.from < stages) × (t.to < stages)
tap stages t e = let (a, b) = and_parts (nat_lt t.from stages) (nat_lt t.to stages) e in (less t.from stages a, less t.to stages b)

injector : (channels stages : ℕ) (i : Injector) → injector_fits channels stages i ≡ true → (i.channel < channels) × (i.stage < stages)
injector channels stages i e = let (a, b) = and_parts (nat_lt i.channel channels) (nat_lt i.stage stages) e in (less i.channel channels a, less i.stage stages b)

last_or_before : (n k : ℕ) → k < suc n → (k ≡ n) ⊎ (k < n)
last_or_before n k below = by (k == n) refl
  where
    by : (t : Bool) → (k == n) ≡ t → (k ≡ n) ⊎ (k < n)
    by true e = inl (same k n e)
    by false e = inr (grind (arith, nat_tests))

abbrev IsReached : List (List ℕ) → ℕ → Type 0
IsReached groups chain = IsTrue (list_any (λ group. has same_number group chain) groups)

at_last : (groups : List (List ℕ)) (n k : ℕ) → IsReached groups n → (k < n → IsReached groups k) → ((k ≡ n) ⊎ (k < n)) → IsReached groups k
at_last groups n k here before (inl e) = rw e here
at_last groups n k here before (inr lower) = before lower

reached : (groups : List (List ℕ)) (n : ℕ) → are_reached groups n ≡ true → (k : ℕ) → k < n → IsReached groups k
reached groups zero e k below = absurd (omega arith)
reached groups (suc n) e k below =
    let (here, rest) = and_parts (list_any (λ group. has same_number group n) groups) (are_reached groups n) e in
    at_last groups n k here (reached groups n rest k) (last_or_before n k below)

ring_within : (chains : ℕ) (ring : RingConfig) → Each (ring_tests chains ring) → IsRingInRange chains ring
ring_within chains ring (stages, (channels, (taps, (taps_differ, (injectors, (injectors_differ, (phases, (phase, end)))))))) = record {
  stages = within 2 128 ring.stages stages;
  channels = within 1 32 ring.channels channels;
  taps = all (tap_fits ring.stages) (λ t. (t.from < ring.stages) × (t.to < ring.stages)) (tap ring.stages) ring.taps taps;
  taps_differ = taps_differ;
  injectors = all (injector_fits ring.channels ring.stages) (λ i. (i.channel < ring.channels) × (i.stage < ring.stages)) (injector ring.channels ring.stages) ring.injectors injectors;
  injectors_differ = injectors_differ;
  phases = same (length ring.phase) chains phases;
  phase = all (is_set ring.stages) (IsSet ring.stages) (set ring.stages) ring.phase phase;
}

compactor_within : (chains : ℕ) (compactor : CompactorConfig) → Each (compactor_tests chains compactor) → IsCompactorInRange chains compactor
compactor_within chains compactor (outputs, (groups, (all_reached, (masks, (few, end))))) =
    let (some, most) = within 1 32 compactor.mask_inputs masks in
    record {
      outputs = within 1 32 (length compactor.groups) outputs;
      groups = all (is_set chains) (IsSet chains) (set chains) compactor.groups groups;
      reached = reached compactor.groups chains all_reached;
      mask_inputs = (some, most, at_most compactor.mask_inputs chains few);
    }

abbrev is_free : List ℕ → Bool
is_free name = is_simple_name name && not (is_later_reserved name)

all_free : list_all is_free (names_of port_names) ≡ true
unfolding reserved_words later_reserved_words
all_free = refl

free : All (λ name. IsTrue (is_free name)) (names_of port_names)
free = all is_free (λ name. IsTrue (is_free name)) (λ name t. t) (names_of port_names) all_free

parts_within : (config : Config) → Each (clocking_tests config) → Each (loading_tests config) → IsRingInRange config.chains config.ring
    → IsCompactorInRange config.chains config.compactor → config.names ≡ port_names → IsInRange config
parts_within config (domains, (domains_differ, (resets, (resets_differ, (apart, (keep_differ, end)))))) (chains, (warm, (window, (seed, (masked, (masked_differ, end_too)))))) ring compactor named =
    record {
      domains = within 1 16 (length config.domains) domains;
      domains_differ = domains_differ;
      resets = at_most (length config.resets) 16 resets;
      resets_differ = resets_differ;
      apart = all (λ reset. not (has bytes_eq config.domains reset)) (λ reset. has bytes_eq config.domains reset ≡ false) (λ reset t. not-true (has bytes_eq config.domains reset) t) config.resets apart;
      keep_differ = keep_differ;
      chains = within 1 1024 config.chains chains;
      warm = at_most config.warm 4095 warm;
      window = within 1 16 config.window window;
      seed = seed_within config.fill seed;
      always_masked = all (λ chain. nat_lt chain config.chains) (λ chain. chain < config.chains) (λ chain t. less chain config.chains t) config.always_masked masked;
      always_masked_differ = masked_differ;
      ring = ring;
      compactor = compactor;
      names = subst (λ names. All (λ name. IsTrue (is_free name)) (names_of names)) (sym named) free;
      names_differ = subst (λ names. IsTrue (all_differ bytes_eq (names_of names))) (sym named) refl;
    }

pub in_range : (shape : Shape) → is_in_range (config_of shape) ≡ true → IsInRange (config_of shape)
in_range shape e =
    let config = config_of shape in
    let (clocking, a) = and_parts (hold (clocking_tests config)) (hold (loading_tests config) && (hold (ring_tests config.chains config.ring) && hold (compactor_tests config.chains config.compactor))) e in
    let (loading, b) = and_parts (hold (loading_tests config)) (hold (ring_tests config.chains config.ring) && hold (compactor_tests config.chains config.compactor)) a in
    let (ring, compactor) = and_parts (hold (ring_tests config.chains config.ring)) (hold (compactor_tests config.chains config.compactor)) b in
    parts_within config (each (clocking_tests config) clocking) (each (loading_tests config) loading)
    (ring_within config.chains config.ring (each (ring_tests config.chains config.ring) ring))
    (compactor_within config.chains config.compactor (each (compactor_tests config.chains config.compactor) compactor))
    refl
