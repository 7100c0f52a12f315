-- A made configuration in range passes the checks behind its keys.
use Rattle.std.proofs.Common.{◌≡◌, ℕ, zero, suc, ◌+◌, ◌<◌, ◌==◌, Bool, true, false, not, ◌&&◌, List, [], ◌∷◌, length, None, Some, refl, ◌∙◌, ap, arith}
use Rattle.std.specs.Prelude.{if◌then◌else◌}
use Rattle.std.specs.List.{AllByRecursion}
use Rattle.std.specs.Str.{bytes_eq}
use Rattle.std.proofs.lemmas.Bool.Decides.{nat_tests}
use Rattle.std.proofs.lemmas.List.Elements.{recursion_from_All}
use Rattle.dft_config.specs.Config.{Config}
use Rattle.dft_config_text.specs.Checks.{Test, are_apart, each_differs, emptiness_tests, repetition_tests, resets_differ, first_empty, first_failing, first_not, first_repeated, first_unreached, have_items, is_reached}
use Rattle.dft_config.specs.Range.{IsInRange, IsSet, has}

-- ---- tests in their order

abbrev pub AllPass : List Test → Type 0
AllPass [] = Unit {0}
AllPass (test ∷ tests) = (test.passes ≡ true) × AllPass tests

none_fails : (tests : List Test) → AllPass tests → first_failing tests ≡ None
none_fails [] all = refl
none_fails (test ∷ tests) all = ap (λ (b : Bool). if b then first_failing tests else Some test.key) all.0 ∙ none_fails tests all.1

-- ---- each test

apart_is : (domains resets : List (List ℕ)) → AllByRecursion (λ reset. has bytes_eq domains reset ≡ false) resets → are_apart domains resets ≡ true
apart_is domains [] all = refl
apart_is domains (reset ∷ resets) all = (λ i. not (all.0 i) && apart_is domains resets all.1 i)

differs_each : (bound : ℕ) (lists : List (List ℕ)) → AllByRecursion (IsSet bound) lists → each_differs lists ≡ true
differs_each bound [] all = refl
differs_each bound (list ∷ lists) all = (λ i. all.0.differ i && differs_each bound lists all.1 i)

some_is : (n : ℕ) → 0 < n → not (n == 0) ≡ true
some_is n less = grind (arith, nat_tests)

have_each : (bound : ℕ) (lists : List (List ℕ)) → AllByRecursion (IsSet bound) lists → have_items lists ≡ true
have_each bound [] all = refl
have_each bound (list ∷ lists) all = (λ i. some_is (length list) all.0.some i && have_each bound lists all.1 i)

reached_from : (test : ℕ → Bool) (from count : ℕ) → ((k : ℕ) → k < count → test (from + k) ≡ true) → first_not test from count ≡ None
reached_from test from zero each = refl
reached_from test from (suc count) each =
    let here : from ≡ from + 0 = omega arith in
    let first : test from ≡ true = ap test here ∙ each 0 (omega arith) in
    ap (λ (b : Bool). if b then first_not test (from + 1) count else Some from) first
    ∙ reached_from test (from + 1) count (λ k less. (let at : from + 1 + k ≡ from + suc k = omega arith in ap test at ∙ each (suc k) (omega arith)))

-- ---- all of them, where nothing is kept and no chain is always masked

pub none_repeated : (config : Config) → IsInRange config → first_repeated config ≡ None
unfolding first_repeated
none_repeated config range =
    let phases = recursion_from_All (IsSet config.ring.stages) config.ring.phase range.ring.phase in
    let groups = recursion_from_All (IsSet config.chains) config.compactor.groups range.compactor.groups in
    let resets : resets_differ config.domains config.resets ≡ true =
    (λ i. range.resets_differ i && apart_is config.domains config.resets (recursion_from_All (λ reset. has bytes_eq config.domains reset ≡ false) config.resets range.apart) i) in
    let all : AllPass (repetition_tests config) = (
      range.domains_differ,
      (
        resets,
        (
          range.keep_differ,
          (
            range.always_masked_differ,
            (
              range.ring.taps_differ,
              (
                range.ring.injectors_differ,
                (
                  differs_each config.ring.stages config.ring.phase phases,
                  (differs_each config.chains config.compactor.groups groups, (range.names_differ, tt)),
                ),
              ),
            ),
          ),
        ),
      ),
    ) in
    none_fails (repetition_tests config) all

pub none_empty : (config : Config) → IsInRange config → first_empty config ≡ None
unfolding first_empty
none_empty config range =
    let phases = recursion_from_All (IsSet config.ring.stages) config.ring.phase range.ring.phase in
    let groups = recursion_from_All (IsSet config.chains) config.compactor.groups range.compactor.groups in
    let all : AllPass (emptiness_tests config) = (have_each config.ring.stages config.ring.phase phases, (have_each config.chains config.compactor.groups groups, tt)) in
    none_fails (emptiness_tests config) all

pub none_unreached : (config : Config) → IsInRange config → first_unreached config ≡ None
unfolding first_unreached
none_unreached config range =
    reached_from (is_reached config.compactor.groups) 0 config.chains (λ k less. (let at : 0 + k ≡ k = omega arith in ap (is_reached config.compactor.groups) at ∙ range.compactor.reached k less))
