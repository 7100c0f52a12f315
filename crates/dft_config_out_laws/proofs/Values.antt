-- What the values of a made configuration's table give.
use Rattle.std.proofs.Common.{◌≡◌, ℕ, ◌<◌, ◌≤◌, true, ◌&&◌, pos, List, [], ◌∷◌, length, map, None, Some, Ok, refl, ap, arith}
use Rattle.std.specs.Prelude.{nat_le, nat_lt, if◌then◌else◌}
use Rattle.std.specs.List.{All, AllByRecursion}
use Rattle.std.proofs.lemmas.Bool.{lt-ltb}
use Rattle.std.proofs.lemmas.Bool.Decides.{nat_tests}
use Rattle.std.proofs.lemmas.List.Elements.{recursion_from_All}
use Rattle.dft_base.proofs.TextLemmas.{printed_byte}
use Rattle.dft_base.specs.Name.{IsName}
use Rattle.toml.specs.Data.{string}
use Rattle.dft_base.specs.Names.{all_printed, name_of}
use Rattle.dft_toml.specs.Values.{names_in, with_first}
use Rattle.dft_config_text.specs.declared.fault.Key.{Key}
use Rattle.dft_config_text.specs.declared.fault.Key.TheVariants as key
use Rattle.dft_config.specs.declared.config.Tap.{Tap}
use Rattle.dft_config.specs.declared.config.Injector.{Injector}
use Rattle.dft_config_text.specs.Faults.{after, cons_ok, or_outside}
use Rattle.dft_config_text.specs.Settings.{all_below, below, injectors_of, integers_in, lists_below, lists_in, number, pairs_of, taps_of, within}
use Rattle.dft_config_out_laws.specs.Tables.{injector_numbers, items_of, number_data, numbers_data, tap_numbers}

-- ---- numbers

le-leb : (a b : ℕ) → a ≤ b → nat_le a b ≡ true
le-leb a b e = grind (arith, nat_tests)

pub within_count : (k : Key) (low high n : ℕ) → low ≤ n → n ≤ high → within k low high (pos n) ≡ Ok n
within_count k low high n a b = (λ i. or_outside k (pos n) (if le-leb low n a i && le-leb n high b i then Some n else None))

pub number_is : (k : Key) (low high n : ℕ) → low ≤ n → n ≤ high → number k low high (Some (number_data n)) ≡ Ok n
unfolding number
number_is k low high n a b = within_count k low high n a b

below_is : (k : Key) (bound n : ℕ) → n < bound → below k bound (pos n) ≡ Ok n
below_is k bound n less = (λ i. or_outside k (pos n) (if lt-ltb n bound less i then Some n else None))

-- ---- lists of numbers

pub integers_are : (numbers : List ℕ) → integers_in (items_of number_data numbers) ≡ Some (map pos numbers)
integers_are [] = refl
integers_are (n ∷ numbers) = ap (with_first (Some (pos n))) (integers_are numbers)

pub lists_are : {X : Type 0} (f : X → List ℕ) (lists : List X) → lists_in (items_of (λ x. numbers_data (f x)) lists) ≡ Some (map (λ x. map pos (f x)) lists)
lists_are f [] = refl
lists_are f (x ∷ lists) = (λ i. with_first (integers_are (f x) i) (lists_are f lists i))

pub below_are : (k : Key) (bound : ℕ) (numbers : List ℕ) → AllByRecursion (λ n. n < bound) numbers → all_below k bound (map pos numbers) ≡ Ok numbers
below_are k bound [] all = refl
below_are k bound (n ∷ numbers) all = (λ i. cons_ok (below_is k bound n all.0 i) (below_are k bound numbers all.1 i))

pub lists_below_are : (k : Key) (bound : ℕ) (lists : List (List ℕ)) → AllByRecursion (λ numbers. All (λ n. n < bound) numbers) lists → lists_below k bound (map (map pos) lists) ≡ Ok lists
lists_below_are k bound [] all = refl
lists_below_are k bound (numbers ∷ lists) all = (λ i. cons_ok (below_are k bound numbers (recursion_from_All (λ n. n < bound) numbers all.0) i) (lists_below_are k bound lists all.1 i))

-- ---- taps and injectors

pub tap_pairs : (taps : List Tap) → pairs_of (map (λ tap. map pos (tap_numbers tap)) taps) ≡ Some (map (λ tap. record { first = pos tap.from; second = pos tap.to }) taps)
tap_pairs [] = refl
tap_pairs (tap ∷ taps) = ap (with_first (Some (record { first = pos tap.from; second = pos tap.to }))) (tap_pairs taps)

pub taps_are : (stages : ℕ) (taps : List Tap) → AllByRecursion (λ tap. (tap.from < stages) × (tap.to < stages)) taps → taps_of stages (map (λ tap. record { first = pos tap.from; second = pos tap.to }) taps) ≡ Ok taps
taps_are stages [] all = refl
taps_are stages (tap ∷ taps) all =
    (λ i. cons_ok (after (below_is key.Taps stages tap.from all.0.0 i) (λ from. after (below_is key.Taps stages tap.to all.0.1 i) (λ to. Ok (record { from = from; to = to })))) (taps_are stages taps all.1 i))

pub injector_pairs : (injectors : List Injector) → pairs_of (map (λ injector. map pos (injector_numbers injector)) injectors) ≡ Some (map (λ injector. record { first = pos injector.channel; second = pos injector.stage }) injectors)
injector_pairs [] = refl
injector_pairs (injector ∷ injectors) = ap (with_first (Some (record { first = pos injector.channel; second = pos injector.stage }))) (injector_pairs injectors)

pub injectors_are : (channels stages : ℕ) (injectors : List Injector) → AllByRecursion (λ injector. (injector.channel < channels) × (injector.stage < stages)) injectors →
    injectors_of channels stages (map (λ injector. record { first = pos injector.channel; second = pos injector.stage }) injectors) ≡ Ok injectors
injectors_are channels stages [] all = refl
injectors_are channels stages (injector ∷ injectors) all =
    (λ i. cons_ok (after (below_is key.Injectors channels injector.channel all.0.0 i) (λ channel. after (below_is key.Injectors stages injector.stage all.0.1 i) (λ stage. Ok (record { channel = channel; stage = stage })))) (injectors_are channels stages injectors all.1 i))

-- ---- names

bytes_printed : (bytes : List ℕ) → AllByRecursion (λ b. (33 ≤ b) × (b ≤ 126)) bytes → all_printed bytes ≡ true
bytes_printed [] all = refl
bytes_printed (b ∷ bytes) all = (λ i. printed_byte b all.0.0 all.0.1 i && bytes_printed bytes all.1 i)

pub name_is : (name : List ℕ) → IsName name → name_of name ≡ Some name
name_is name is =
    let all = bytes_printed name (recursion_from_All (λ b. (33 ≤ b) × (b ≤ 126)) name is.each) in
    let some : nat_lt 0 (length name) ≡ true = lt-ltb 0 (length name) is.some in
    (λ i. if some i && all i then Some name else None)

pub names_are : (names : List (List ℕ)) → AllByRecursion IsName names → names_in (items_of string names) ≡ Some names
names_are [] all = refl
names_are (name ∷ names) all = (λ i. with_first (name_is name all.0 i) (names_are names all.1 i))
