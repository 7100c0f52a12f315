-- What is read of a key is within its bounds.
use Rattle.std.proofs.Common.{ℕ, ℤ, pos, negsuc, ◌≡◌, ◌==◌, ◌-◌, ◌^◌, ◌<◌, ◌≤◌, suc, Bool, true, false, not, ◌&&◌, IsTrue, List, [], ◌∷◌, length, Option, Some, None, option_and_then, IfSome, Result, Ok, Err, IfOk, nat_le, nat_lt, if◌then◌else◌, codes, All, subst, refl, ap, arith}
use Rattle.std.proofs.lemmas.Bool.Decides.{nat_tests}
use Rattle.std.proofs.lemmas.List.Elements.{All-nil, All-cons}
use Rattle.std.proofs.lemmas.Result.{IfOk-weaker}
use Rattle.std.specs.Str.{bytes_eq}
use Rattle.toml.specs.Data.{Data, Members, as_integer, as_str}
use Rattle.dft_base.specs.Words.{is_simple_name, is_later_reserved, reserved_words, later_reserved_words}
use Rattle.dft_base.specs.Names.{is_name}
use Rattle.dft_toml.specs.Values.{names_of_value, value_in}
use Rattle.dft_config_text.specs.declared.fault.Key.{Key}
use Rattle.dft_config_text.specs.declared.fault.Key.TheVariants as key
use Rattle.dft_config_text.specs.declared.fault.Fault.{Fault}
use Rattle.dft_config_text.specs.declared.fault.Fault.TheVariants as fault
use Rattle.dft_config.specs.declared.config.FillRule.{FillRule}
use Rattle.dft_config.specs.declared.config.FillRule.TheVariants.{Zeros, Ones, Seed}
use Rattle.dft_config.specs.declared.config.Tap.{Tap}
use Rattle.dft_config.specs.declared.config.Injector.{Injector}
use Rattle.dft_config_text.specs.declared.lists.Pair.{Pair}
use Rattle.dft_config_text.specs.declared.port.Port.{Port}
use Rattle.dft_config_text.specs.declared.port.Port.TheVariants as port
use Rattle.dft_config_text.specs.Faults.{needed, after, or_outside, cons_ok}
use Rattle.dft_config_text.specs.Ports.{key_of, word_of, default_of}
use Rattle.dft_config.specs.Range.{IsSeedInRange}
use Rattle.dft_config_text.specs.Settings.{bounded, within, number, bounded_below, below, all_below, lists_below, integers_of, lists_of, tap_of, injector_of, taps_of, injectors_of, of_length, numbers, pairs, taps, injectors, phase, groups, counted, domains, resets, fill_named, fill, free_name, name_or_default, port_name}

-- what holds of a value holds of what follows
pub ok_after : {A B : Type 0} (a : Result A Fault) (next : A → Result B Fault) (P : A → Type 0) (Q : B → Type 0)
    → IfOk a P → ((x : A) → P x → IfOk (next x) Q) → IfOk (after a next) Q
ok_after (Ok x) next P Q p h = h x p
ok_after (Err e) next P Q p h = tt

pub ok_needed : {A B : Type 0} (k : Key) (o : Option A) (next : A → Result B Fault) (Q : B → Type 0) → ((x : A) → IfOk (next x) Q) → IfOk (needed k o next) Q
ok_needed k None next Q h = tt
ok_needed k (Some x) next Q h = h x

ok_cons : {A : Type 0} (P : A → Type 0) (a : Result A Fault) (rest : Result (List A) Fault) → IfOk a P → IfOk rest (All P) → IfOk (cons_ok a rest) (All P)
ok_cons P (Err e) rest p h = tt
ok_cons P (Ok x) (Err e) p h = tt
ok_cons P (Ok x) (Ok xs) p h = All-cons P x xs p h

ok_outside : {A : Type 0} (k : Key) (z : ℤ) (o : Option A) (P : A → Type 0) → IfSome o P → IfOk (or_outside k z o) P
ok_outside k z None P p = tt
ok_outside k z (Some x) P p = p

pub ok_any : {A : Type 0} (a : Result A Fault) → IfOk a (λ _. Unit {0})
ok_any (Ok x) = tt
ok_any (Err e) = tt

some_if : (t : Bool) (n : ℕ) (P : ℕ → Type 0) → (t ≡ true → P n) → IfSome (if t then Some n else None) P
some_if true n P h = h refl
some_if false n P h = tt

both_le : (low high n : ℕ) → (nat_le low n && nat_le n high) ≡ true → (low ≤ n) × (n ≤ high)
both_le low high n e = (grind (arith, nat_tests), grind (arith, nat_tests))

bounded_ok : (low high : ℕ) (z : ℤ) → IfSome (bounded low high z) (λ n. (low ≤ n) × (n ≤ high))
bounded_ok low high (pos n) = some_if (nat_le low n && nat_le n high) n (λ n. (low ≤ n) × (n ≤ high)) (both_le low high n)
bounded_ok low high (negsuc n) = tt

pub within_ok : (k : Key) (low high : ℕ) (z : ℤ) → IfOk (within k low high z) (λ n. (low ≤ n) × (n ≤ high))
within_ok k low high z = ok_outside k z (bounded low high z) (λ n. (low ≤ n) × (n ≤ high)) (bounded_ok low high z)

pub number_ok : (k : Key) (low high : ℕ) (value : Option Data) → IfOk (number k low high value) (λ n. (low ≤ n) × (n ≤ high))
unfolding number
number_ok k low high value = ok_needed k (option_and_then as_integer value) (within k low high) (λ n. (low ≤ n) × (n ≤ high)) (within_ok k low high)

is_below : (bound n : ℕ) → nat_lt n bound ≡ true → n < bound
is_below bound n e = grind (arith, nat_tests)

bounded_below_ok : (bound : ℕ) (z : ℤ) → IfSome (bounded_below bound z) (λ n. n < bound)
bounded_below_ok bound (pos n) = some_if (nat_lt n bound) n (λ n. n < bound) (is_below bound n)
bounded_below_ok bound (negsuc n) = tt

below_ok : (k : Key) (bound : ℕ) (z : ℤ) → IfOk (below k bound z) (λ n. n < bound)
below_ok k bound z = ok_outside k z (bounded_below bound z) (λ n. n < bound) (bounded_below_ok bound z)

pub all_below_ok : (k : Key) (bound : ℕ) (zs : List ℤ) → IfOk (all_below k bound zs) (All (λ n. n < bound))
all_below_ok k bound [] = All-nil (λ n. n < bound)
all_below_ok k bound (z ∷ zs) = ok_cons (λ n. n < bound) (below k bound z) (all_below k bound zs) (below_ok k bound z) (all_below_ok k bound zs)

-- as many lists as there were, with numbers below the bound
abbrev pub AreBelow : ℕ → ℕ → List (List ℕ) → Type 0
AreBelow bound count lists = (length lists ≡ count) × All (All (λ n. n < bound)) lists

lists_cons : (bound count : ℕ) (a : Result (List ℕ) Fault) (rest : Result (List (List ℕ)) Fault) → IfOk a (All (λ n. n < bound)) → IfOk rest (AreBelow bound count)
    → IfOk (cons_ok a rest) (AreBelow bound (suc count))
lists_cons bound count (Err e) rest p h = tt
lists_cons bound count (Ok x) (Err e) p h = tt
lists_cons bound count (Ok x) (Ok xs) p h = (ap suc h.0, All-cons (All (λ n. n < bound)) x xs p h.1)

pub lists_below_ok : (k : Key) (bound : ℕ) (lists : List (List ℤ)) → IfOk (lists_below k bound lists) (AreBelow bound (length lists))
lists_below_ok k bound [] = (refl, All-nil (All (λ n. n < bound)))
lists_below_ok k bound (zs ∷ lists) =
    lists_cons bound (length lists) (all_below k bound zs) (lists_below k bound lists) (all_below_ok k bound zs) (lists_below_ok k bound lists)

pub numbers_ok : (k : Key) (bound : ℕ) (value : Option Data) → IfOk (numbers k bound value) (All (λ n. n < bound))
unfolding numbers
numbers_ok k bound None = All-nil (λ n. n < bound)
numbers_ok k bound (Some value) = ok_needed k (integers_of value) (all_below k bound) (All (λ n. n < bound)) (all_below_ok k bound)

abbrev pub IsTapBelow : ℕ → Tap → Type 0
IsTapBelow stages tap = (tap.from < stages) × (tap.to < stages)

abbrev pub IsInjectorBelow : ℕ → ℕ → Injector → Type 0
IsInjectorBelow channels stages injector = (injector.channel < channels) × (injector.stage < stages)

tap_ok : (stages : ℕ) (pair : Pair) → IfOk (tap_of stages pair) (IsTapBelow stages)
tap_ok stages pair =
    ok_after (below key.Taps stages pair.first) _ (λ n. n < stages) (IsTapBelow stages) (below_ok key.Taps stages pair.first)
    (λ from f. ok_after (below key.Taps stages pair.second) _ (λ n. n < stages) (IsTapBelow stages) (below_ok key.Taps stages pair.second) (λ to t. (f, t)))

taps_of_ok : (stages : ℕ) (ps : List Pair) → IfOk (taps_of stages ps) (All (IsTapBelow stages))
taps_of_ok stages [] = All-nil (IsTapBelow stages)
taps_of_ok stages (p ∷ ps) = ok_cons (IsTapBelow stages) (tap_of stages p) (taps_of stages ps) (tap_ok stages p) (taps_of_ok stages ps)

pub taps_ok : (stages : ℕ) (value : Option Data) → IfOk (taps stages value) (All (IsTapBelow stages))
unfolding taps
taps_ok stages value =
    ok_after (pairs key.Taps value) (taps_of stages) (λ _. Unit {0}) (All (IsTapBelow stages)) (ok_any (pairs key.Taps value)) (λ ps u. taps_of_ok stages ps)

injector_ok : (channels stages : ℕ) (pair : Pair) → IfOk (injector_of channels stages pair) (IsInjectorBelow channels stages)
injector_ok channels stages pair =
    ok_after (below key.Injectors channels pair.first) _ (λ n. n < channels) (IsInjectorBelow channels stages) (below_ok key.Injectors channels pair.first)
    (λ channel c. ok_after (below key.Injectors stages pair.second) _ (λ n. n < stages) (IsInjectorBelow channels stages) (below_ok key.Injectors stages pair.second) (λ stage s. (c, s)))

injectors_of_ok : (channels stages : ℕ) (ps : List Pair) → IfOk (injectors_of channels stages ps) (All (IsInjectorBelow channels stages))
injectors_of_ok channels stages [] = All-nil (IsInjectorBelow channels stages)
injectors_of_ok channels stages (p ∷ ps) =
    ok_cons (IsInjectorBelow channels stages) (injector_of channels stages p) (injectors_of channels stages ps) (injector_ok channels stages p) (injectors_of_ok channels stages ps)

pub injectors_ok : (channels stages : ℕ) (value : Option Data) → IfOk (injectors channels stages value) (All (IsInjectorBelow channels stages))
unfolding injectors
injectors_ok channels stages value =
    ok_after (pairs key.Injectors value) (injectors_of channels stages) (λ _. Unit {0}) (All (IsInjectorBelow channels stages)) (ok_any (pairs key.Injectors value))
    (λ ps u. injectors_of_ok channels stages ps)

counted_lists : (t : Bool) (k : Key) (bound count : ℕ) (lists : List (List ℤ)) → (length lists == count) ≡ t
    → IfOk (needed k (if t then Some lists else None) (lists_below k bound)) (AreBelow bound count)
counted_lists false k bound count lists e = tt
counted_lists true k bound count lists e =
    let same : length lists ≡ count = grind (arith, nat_tests) in
    subst (λ (n : ℕ). IfOk (lists_below k bound lists) (AreBelow bound n)) same (lists_below_ok k bound lists)

phase_found : (chains stages : ℕ) (o : Option (List (List ℤ))) → IfOk (needed key.Phase (option_and_then (of_length chains) o) (lists_below key.Phase stages)) (AreBelow stages chains)
phase_found chains stages None = tt
phase_found chains stages (Some lists) = counted_lists (length lists == chains) key.Phase stages chains lists refl

pub phase_ok : (chains stages : ℕ) (value : Option Data) → IfOk (phase chains stages value) (AreBelow stages chains)
unfolding phase
phase_ok chains stages value = phase_found chains stages (option_and_then lists_of value)

abbrev pub AreGroups : ℕ → List (List ℕ) → Type 0
AreGroups chains groups = ((1 ≤ length groups) × (length groups ≤ 32)) × All (All (λ n. n < chains)) groups

groups_counted : (t : Bool) (chains : ℕ) (lists : List (List ℤ)) → (nat_le 1 (length lists) && nat_le (length lists) 32) ≡ t
    → IfOk (after (or_outside key.Groups (pos (length lists)) (if t then Some (length lists) else None)) (λ count. lists_below key.Groups chains lists)) (AreGroups chains)
groups_counted false chains lists e = tt
groups_counted true chains lists e =
    IfOk-weaker (lists_below key.Groups chains lists) (AreBelow chains (length lists)) (AreGroups chains)
    (λ found b. let n = b.0 in let (some, few) = both_le 1 32 (length lists) e in ((omega arith, omega arith), b.1))
    (lists_below_ok key.Groups chains lists)

pub groups_ok : (chains : ℕ) (value : Option Data) → IfOk (groups chains value) (AreGroups chains)
unfolding groups
groups_ok chains value =
    ok_needed key.Groups (option_and_then lists_of value) _ (AreGroups chains)
    (λ lists. groups_counted (nat_le 1 (length lists) && nat_le (length lists) 32) chains lists refl)

names_counted : (t : Bool) (k : Key) (low high : ℕ) (names : List (List ℕ)) → (nat_le low (length names) && nat_le (length names) high) ≡ t
    → IfOk (after (or_outside k (pos (length names)) (if t then Some (length names) else None)) (λ count. Ok names)) (λ found. (low ≤ length found) × (length found ≤ high))
names_counted false k low high names e = tt
names_counted true k low high names e = both_le low high (length names) e

counted_ok : (k : Key) (low high : ℕ) (names : List (List ℕ)) → IfOk (counted k low high names) (λ found. (low ≤ length found) × (length found ≤ high))
counted_ok k low high names = names_counted (nat_le low (length names) && nat_le (length names) high) k low high names refl

pub domains_ok : (value : Option Data) → IfOk (domains value) (λ names. (1 ≤ length names) × (length names ≤ 16))
unfolding domains
domains_ok value =
    ok_needed key.Domains (option_and_then names_of_value value) (counted key.Domains 1 16) (λ names. (1 ≤ length names) × (length names ≤ 16)) (counted_ok key.Domains 1 16)

pub resets_ok : (value : Option Data) → IfOk (resets value) (λ names. (0 ≤ length names) × (length names ≤ 16))
unfolding resets
resets_ok None = (omega arith, omega arith)
resets_ok (Some value) =
    ok_needed key.Resets (names_of_value value) (counted key.Resets 0 16) (λ names. (0 ≤ length names) × (length names ≤ 16)) (counted_ok key.Resets 0 16)

seeded_ok : (seed : Option Data) → IfOk (after (number key.Seed 0 (2 ^ 63 - 1) seed) (λ n. Ok (Seed n))) IsSeedInRange
seeded_ok seed =
    ok_after (number key.Seed 0 (2 ^ 63 - 1) seed) (λ n. Ok (Seed n)) (λ n. (0 ≤ n) × (n ≤ 2 ^ 63 - 1)) IsSeedInRange (number_ok key.Seed 0 (2 ^ 63 - 1) seed) (λ n b. omega arith)

fill_chosen : (a b c : Bool) (r : Result FillRule Fault) → IfOk r IsSeedInRange
    → IfOk (if a then Ok Zeros else (if b then Ok Ones else (if c then r else Err (fault.Missing key.Fill)))) IsSeedInRange
fill_chosen true b c r h = tt
fill_chosen false true c r h = tt
fill_chosen false false true r h = h
fill_chosen false false false r h = tt

pub fill_ok : (value seed : Option Data) → IfOk (fill value seed) IsSeedInRange
unfolding fill
fill_ok None seed = tt
fill_ok (Some value) seed =
    ok_needed key.Fill (as_str value) (λ word. fill_named word seed) IsSeedInRange
    (λ word. fill_chosen (bytes_eq word (codes "zeros")) (bytes_eq word (codes "ones")) (bytes_eq word (codes "seed")) _ (seeded_ok seed))

-- a simple name that no standard reserves
abbrev pub IsFree : List ℕ → Type 0
IsFree name = IsTrue (is_simple_name name && not (is_later_reserved name))

some_free : (t u : Bool) (text : List ℕ) → (is_simple_name text && not (is_later_reserved text)) ≡ t → IfSome (if t then (if u then Some text else None) else None) IsFree
some_free false u text e = tt
some_free true false text e = tt
some_free true true text e = e

found_free : (k : Key) (o : Option (List ℕ)) → IfSome o IsFree → IfOk (needed k o (λ name. Ok name)) IsFree
found_free k None h = tt
found_free k (Some name) h = h

text_free : (k : Key) (o : Option (List ℕ)) → IfOk (needed k (option_and_then free_name o) (λ name. Ok name)) IsFree
text_free k None = tt
text_free k (Some text) = found_free k (free_name text) (some_free (is_simple_name text && not (is_later_reserved text)) (is_name text) text refl)

default_free : (p : Port) → IsFree (default_of p)
unfolding reserved_words later_reserved_words
default_free port.ScanEnable = refl
default_free port.EdtClock = refl
default_free port.EdtUpdate = refl
default_free port.Channel = refl
default_free port.Mask = refl
default_free port.Output = refl
default_free port.ScanIn = refl
default_free port.ScanOut = refl

name_free : (p : Port) (value : Option Data) → IfOk (name_or_default p value) IsFree
name_free p None = default_free p
name_free p (Some value) = text_free (key_of p) (as_str value)

pub port_ok : (p : Port) (table : Option Members) → IfOk (port_name p table) IsFree
unfolding port_name
port_ok p table = name_free p (value_in (word_of p) table)
