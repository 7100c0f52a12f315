-- What the values of a configuration's keys give.
use Rattle.std.specs.Prelude.{codes, ℕ, ℤ, pos, negsuc, ◌==◌, ◌-◌, ◌^◌, not, ◌&&◌, List, [], ◌∷◌, length, Option, Some, None, option_and_then, Result, Ok, Err, nat_le, nat_lt, if◌then◌else◌}
use Rattle.std.specs.Str.{bytes_eq}
use Rattle.dft_base.specs.Words.{is_simple_name, is_later_reserved}
use Rattle.toml.specs.Data.{Data, Members, Items, no_items, item, as_integer, as_str, as_array}
use Rattle.dft_base.specs.Names.{name_of}
use Rattle.dft_toml.specs.Values.{names_of_value, value_in, with_first}
use Rattle.dft_config_text.specs.declared.fault.Key.{Key}
use Rattle.dft_config_text.specs.declared.fault.Key.TheVariants as key
use Rattle.dft_config_text.specs.declared.fault.Fault.{Fault}
use Rattle.dft_config_text.specs.declared.fault.Fault.TheVariants as fault
use Rattle.dft_config.specs.declared.config.FillRule.{FillRule}
use Rattle.dft_config.specs.declared.config.FillRule.TheVariants.{Zeros, Ones, Seed}
use Rattle.dft_config.specs.declared.config.Tap.{Tap}
use Rattle.dft_config.specs.declared.config.Injector.{Injector}
use Rattle.dft_config_text.specs.declared.lists.Pair.{Pair}
use Rattle.dft_config_text.specs.declared.port.Port.{Port}
use Rattle.dft_config_text.specs.Ports.{key_of, word_of, default_of}
use Rattle.dft_config_text.specs.Faults.{needed, after, or_outside, cons_ok}

-- a number of a text between two bounds
abbrev pub bounded : ℕ → ℕ → ℤ → Option ℕ
bounded low high (pos n) = if nat_le low n && nat_le n high then Some n else None
bounded low high (negsuc n) = None

-- a number within the bounds of a key
abbrev pub within : Key → ℕ → ℕ → ℤ → Result ℕ Fault
within k low high z = or_outside k z (bounded low high z)

-- the number at a key
unfoldable pub number : Key → ℕ → ℕ → Option Data → Result ℕ Fault
number k low high value = needed k (option_and_then as_integer value) (within k low high)

-- a number of a text below a bound
abbrev pub bounded_below : ℕ → ℤ → Option ℕ
bounded_below bound (pos n) = if nat_lt n bound then Some n else None
bounded_below bound (negsuc n) = None

-- a number of a list, below the bound of a key
abbrev pub below : Key → ℕ → ℤ → Result ℕ Fault
below k bound z = or_outside k z (bounded_below bound z)

-- each number of a list below the bound; the first other one is the fault
abbrev pub all_below : Key → ℕ → List ℤ → Result (List ℕ) Fault
all_below k bound [] = Ok []
all_below k bound (z ∷ zs) = cons_ok (below k bound z) (all_below k bound zs)

-- the same for lists of numbers
abbrev pub lists_below : Key → ℕ → List (List ℤ) → Result (List (List ℕ)) Fault
lists_below k bound [] = Ok []
lists_below k bound (zs ∷ lists) = cons_ok (all_below k bound zs) (lists_below k bound lists)

-- the numbers that the items of a list are, where each is one
abbrev pub integers_in : Items → Option (List ℤ)
integers_in no_items = Some []
integers_in (item value rest) = with_first (as_integer value) (integers_in rest)

-- the numbers of a value that is a list of numbers
abbrev pub integers_of : Data → Option (List ℤ)
integers_of value = option_and_then integers_in (as_array value)

-- the lists of numbers that the items of a list are, where each is one
abbrev pub lists_in : Items → Option (List (List ℤ))
lists_in no_items = Some []
lists_in (item value rest) = with_first (integers_of value) (lists_in rest)

-- the lists of a value that is a list of lists of numbers
abbrev pub lists_of : Data → Option (List (List ℤ))
lists_of value = option_and_then lists_in (as_array value)

-- a list of two numbers as a pair, and lists of two numbers as pairs
abbrev pub pair_of : List ℤ → Option Pair
pair_of (a ∷ b ∷ []) = Some (record { first = a; second = b })
pair_of _ = None

abbrev pub pairs_of : List (List ℤ) → Option (List Pair)
pairs_of [] = Some []
pairs_of (zs ∷ lists) = with_first (pair_of zs) (pairs_of lists)

-- a tap between stages, and an injector of a channel into a stage
abbrev pub tap_of : ℕ → Pair → Result Tap Fault
tap_of stages pair = after (below key.Taps stages pair.first) (λ from. after (below key.Taps stages pair.second) (λ to. Ok (record { from = from; to = to })))

abbrev pub injector_of : ℕ → ℕ → Pair → Result Injector Fault
injector_of channels stages pair =
    after (below key.Injectors channels pair.first) (λ channel. after (below key.Injectors stages pair.second) (λ stage. Ok (record { channel = channel; stage = stage })))

abbrev pub taps_of : ℕ → List Pair → Result (List Tap) Fault
taps_of stages [] = Ok []
taps_of stages (pair ∷ pairs) = cons_ok (tap_of stages pair) (taps_of stages pairs)

abbrev pub injectors_of : ℕ → ℕ → List Pair → Result (List Injector) Fault
injectors_of channels stages [] = Ok []
injectors_of channels stages (pair ∷ pairs) = cons_ok (injector_of channels stages pair) (injectors_of channels stages pairs)

-- lists, where there are as many as this
abbrev pub of_length : ℕ → List (List ℤ) → Option (List (List ℤ))
of_length count lists = if length lists == count then Some lists else None

-- the numbers of a list that may be left out
unfoldable pub numbers : Key → ℕ → Option Data → Result (List ℕ) Fault
numbers k bound None = Ok []
numbers k bound (Some value) = needed k (integers_of value) (all_below k bound)

-- the pairs of numbers at a key
abbrev pub pairs : Key → Option Data → Result (List Pair) Fault
pairs k value = needed k (option_and_then pairs_of (option_and_then lists_of value)) (λ found. Ok found)

-- the taps, the injectors, the phase and the groups
unfoldable pub taps : ℕ → Option Data → Result (List Tap) Fault
taps stages value = after (pairs key.Taps value) (taps_of stages)

unfoldable pub injectors : ℕ → ℕ → Option Data → Result (List Injector) Fault
injectors channels stages value = after (pairs key.Injectors value) (injectors_of channels stages)

unfoldable pub phase : ℕ → ℕ → Option Data → Result (List (List ℕ)) Fault
phase chains stages value = needed key.Phase (option_and_then (of_length chains) (option_and_then lists_of value)) (lists_below key.Phase stages)

unfoldable pub groups : ℕ → Option Data → Result (List (List ℕ)) Fault
groups chains value =
    needed key.Groups (option_and_then lists_of value) (λ lists. after (within key.Groups 1 32 (pos (length lists))) (λ count. lists_below key.Groups chains lists))

-- names, where their count is in the range of the key
abbrev pub counted : Key → ℕ → ℕ → List (List ℕ) → Result (List (List ℕ)) Fault
counted k low high names = after (within k low high (pos (length names))) (λ count. Ok names)

unfoldable pub domains : Option Data → Result (List (List ℕ)) Fault
domains value = needed key.Domains (option_and_then names_of_value value) (counted key.Domains 1 16)

unfoldable pub resets : Option Data → Result (List (List ℕ)) Fault
resets None = Ok []
resets (Some value) = needed key.Resets (names_of_value value) (counted key.Resets 0 16)

unfoldable pub keep : Option Data → Result (List (List ℕ)) Fault
keep None = Ok []
keep (Some value) = needed key.Keep (names_of_value value) (λ names. Ok names)

-- the fill of a word; a seed is a number at its own key
abbrev pub fill_named : List ℕ → Option Data → Result FillRule Fault
fill_named word seed =
    if bytes_eq word (codes "zeros") then Ok Zeros
    else (if bytes_eq word (codes "ones") then Ok Ones
    else (if bytes_eq word (codes "seed") then after (number key.Seed 0 (2 ^ 63 - 1) seed) (λ n. Ok (Seed n))
    else Err (fault.Missing key.Fill)))

unfoldable pub fill : Option Data → Option Data → Result FillRule Fault
fill None seed = Ok Zeros
fill (Some value) seed = needed key.Fill (as_str value) (λ word. fill_named word seed)

-- a text that is a simple name which no standard reserves
abbrev pub free_name : List ℕ → Option (List ℕ)
free_name text = if is_simple_name text && not (is_later_reserved text) then name_of text else None

-- the name of a port, or its default
abbrev pub name_or_default : Port → Option Data → Result (List ℕ) Fault
name_or_default port None = Ok (default_of port)
name_or_default port (Some value) = needed (key_of port) (option_and_then free_name (as_str value)) (λ name. Ok name)

-- the name of a port that the table of names gives
unfoldable pub port_name : Port → Option Members → Result (List ℕ) Fault
port_name port table = name_or_default port (value_in (word_of port) table)
