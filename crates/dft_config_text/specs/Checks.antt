-- What is tested of a configuration once its keys are read: repetitions, empty lists and chains that no group has.
use Rattle.std.specs.Prelude.{ℕ, ◌+◌, zero, suc, ◌==◌, Bool, not, ◌&&◌, List, [], ◌∷◌, length, Option, Some, None, if◌then◌else◌}
use Rattle.std.specs.List.{list_any, list_all}
use Rattle.std.specs.Str.{bytes_eq}
use Rattle.dft_config_text.specs.declared.fault.Key.{Key}
use Rattle.dft_config_text.specs.declared.fault.Key.TheVariants as key
use Rattle.dft_config.specs.Config.{Config}
use Rattle.dft_config.specs.Range.{has, all_differ, same_number, same_tap, same_injector, names_of}

-- a key, and whether its value passes a test
pub record Test : Type 0 where
  pub key : Key
  pub passes : Bool

-- the first key whose test fails
abbrev pub first_failing : List Test → Option Key
first_failing [] = None
first_failing (test ∷ tests) = if test.passes then first_failing tests else Some test.key

-- whether no reset is a domain
abbrev pub are_apart : List (List ℕ) → List (List ℕ) → Bool
are_apart domains resets = list_all (λ reset. not (has bytes_eq domains reset)) resets

-- whether no reset stands twice, and none is a domain
abbrev pub resets_differ : List (List ℕ) → List (List ℕ) → Bool
resets_differ domains resets = all_differ bytes_eq resets && are_apart domains resets

-- whether in each list no number stands twice
abbrev pub each_differs : List (List ℕ) → Bool
each_differs lists = list_all (all_differ same_number) lists

-- what may not stand twice in one list; besides no reset is a domain, and the names of ports differ
abbrev pub repetition_tests : Config → List Test
repetition_tests config =
    record { key = key.Domains; passes = all_differ bytes_eq config.domains } ∷
    record { key = key.Resets; passes = resets_differ config.domains config.resets } ∷
    record { key = key.Keep; passes = all_differ bytes_eq config.keep } ∷
    record { key = key.AlwaysMasked; passes = all_differ same_number config.always_masked } ∷
    record { key = key.Taps; passes = all_differ same_tap config.ring.taps } ∷
    record { key = key.Injectors; passes = all_differ same_injector config.ring.injectors } ∷
    record { key = key.Phase; passes = each_differs config.ring.phase } ∷
    record { key = key.Groups; passes = each_differs config.compactor.groups } ∷
    record { key = key.Names; passes = all_differ bytes_eq (names_of config.names) } ∷ []

-- the first key with something that stands twice
unfoldable pub first_repeated : Config → Option Key
first_repeated config = first_failing (repetition_tests config)

-- whether each list has an item
abbrev pub have_items : {T : Type 0} → List (List T) → Bool
have_items lists = list_all (λ list. not (length list == 0)) lists

-- what may hold no empty list
abbrev pub emptiness_tests : Config → List Test
emptiness_tests config =
    record { key = key.Phase; passes = have_items config.ring.phase } ∷
    record { key = key.Groups; passes = have_items config.compactor.groups } ∷ []

-- the first key with an empty list in its list
unfoldable pub first_empty : Config → Option Key
first_empty config = first_failing (emptiness_tests config)

-- whether a chain stands in some group
abbrev pub is_reached : List (List ℕ) → ℕ → Bool
is_reached groups chain = list_any (λ group. has same_number group chain) groups

-- the first of so many numbers, from this one on, that fails a test
abbrev pub first_not : (ℕ → Bool) → ℕ → ℕ → Option ℕ
first_not test n zero = None
first_not test n (suc more) = if test n then first_not test (n + 1) more else Some n

-- the first chain in no group
unfoldable pub first_unreached : Config → Option ℕ
first_unreached config = first_not (is_reached config.compactor.groups) 0 config.chains
