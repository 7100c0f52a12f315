-- The value of digits, one digit after the other.
use Rattle.std.proofs.Common.{◌≡◌, ℕ, zero, suc, ◌+◌, ◌*◌, ◌/◌, ◌%◌, ◌++◌, append_assoc, ◌-◌, ◌^◌, ◌<◌, ◌≤◌, Bool, true, false, List, [], ◌∷◌, length, drop, get_or, map, refl, ap, ◌∙◌, sym, arith, Some, None, if◌then◌else◌, not, ◌==◌, nat_lt}
use Rattle.std.specs.Char.{digit_value}
use Rattle.std.specs.Str.Parse.{digits_value_after}
use Rattle.std.proofs.lemmas.List.{drop_more}
use Rattle.std.proofs.lemmas.Bool.Decides.{nat_tests}
use Rattle.dft_netlist_text.specs.Expressions.{bits_of_value, bare_digits}
use Rattle.dft_netlist.specs.declared.instance.Signal.{Signal}
use Rattle.dft_netlist.specs.declared.instance.Signal.TheVariants as signal
use Rattle.dft_verilog_tokens.specs.Digits.{if_below}

grows : (n radix : ℕ) → 1 ≤ radix → n ≤ n * radix
grows n zero one = absurd (omega arith)
grows n (suc radix) one = grind (arith)

-- more digits do not lower a value
pub digits_grow : (radix n : ℕ) (ds : List ℕ) → 1 ≤ radix → n ≤ digits_value_after radix n ds
digits_grow radix n [] one = omega arith
digits_grow radix n (d ∷ ds) one =
    let more : n * radix + digit_value d ≤ digits_value_after radix (n * radix + digit_value d) ds = digits_grow radix (n * radix + digit_value d) ds one in
    let grown : n ≤ n * radix = grows n radix one in
    omega arith

none_by : (t : Bool) (bound n : ℕ) → nat_lt n bound ≡ t → (if t then Some n else None) ≡ None → bound ≤ n
none_by true bound n e h = grind (arith, nat_tests)
none_by false bound n e h = grind (arith, nat_tests)

pub below_none : (bound n : ℕ) → if_below bound n ≡ None → bound ≤ n
below_none bound n h = none_by (nat_lt n bound) bound n refl h

-- a value with one digit more that is too large makes the whole too large
pub overflows : (radix bound v i d total : ℕ) (word : List ℕ) → 1 ≤ radix → i < length word → digits_value_after radix v (drop i word) ≡ total →
    if_below bound (v * radix + digit_value (get_or word i d)) ≡ None → bound ≤ total
overflows radix bound v i d total word one less e none =
    let step = ap (digits_value_after radix v) (drop_more word i d less) in
    let more = digits_grow radix (v * radix + digit_value (get_or word i d)) (drop (i + 1) word) one in
    let large = below_none bound (v * radix + digit_value (get_or word i d)) none in
    omega (arith, sym e ∙ step)

drop_none : (i : ℕ) (word : List ℕ) → length word ≤ i → drop i word ≡ []
drop_none zero [] done = refl
drop_none zero (b ∷ word) done = absurd (omega arith)
drop_none (suc i) [] done = refl
drop_none (suc i) (b ∷ word) done = drop_none i word (omega arith)

-- behind all digits the value is the whole
pub all_read : (radix v i total : ℕ) (word : List ℕ) → length word ≤ i → digits_value_after radix v (drop i word) ≡ total → v ≡ total
all_read radix v i total word done e = ap (digits_value_after radix v) (sym (drop_none i word done)) ∙ e

pub all_bare_read : (radix v i total : ℕ) (word : List ℕ) → length word ≤ i → digits_value_after radix v (bare_digits (drop i word)) ≡ total → v ≡ total
all_bare_read radix v i total word done e = ap (λ w. digits_value_after radix v (bare_digits w)) (sym (drop_none i word done)) ∙ e

bare_more : (t : Bool) (b : ℕ) (rest : List ℕ) → (b == 95) ≡ t → t ≡ false → bare_digits (b ∷ rest) ≡ b ∷ bare_digits rest
bare_more true b rest same h = absurd cc
bare_more false b rest same h = ap (λ t. if not t then b ∷ bare_digits rest else bare_digits rest) same

pub overflows_bare : (radix bound v i d total : ℕ) (word : List ℕ) → 1 ≤ radix → i < length word → (get_or word i d == 95) ≡ false →
    digits_value_after radix v (bare_digits (drop i word)) ≡ total → if_below bound (v * radix + digit_value (get_or word i d)) ≡ None → bound ≤ total
overflows_bare radix bound v i d total word one less digit e none =
    let step = ap (λ w. digits_value_after radix v (bare_digits w)) (drop_more word i d less) ∙ ap (digits_value_after radix v) (bare_more (get_or word i d == 95) (get_or word i d) (drop (i + 1) word) refl digit) in
    let more = digits_grow radix (v * radix + digit_value (get_or word i d)) (bare_digits (drop (i + 1) word)) one in
    let large = below_none bound (v * radix + digit_value (get_or word i d)) none in
    omega (arith, sym e ∙ step)

-- one bit more
pub bits_step : (left value : ℕ) → 0 < left → bits_of_value left value ≡ (value / 2 ^ (left - 1) % 2 == 1) ∷ bits_of_value (left - 1) value
bits_step zero value some = absurd (omega arith)
bits_step (suc place) value some =
    let e : place ≡ suc place - 1 = omega arith in
    ap (λ p. (value / 2 ^ p % 2 == 1) ∷ bits_of_value p value) e

-- the signals of a value's bits
pub bits_more : (done all : List Signal) (left value : ℕ) → 0 < left → done ++ map signal.Constant (bits_of_value left value) ≡ all →
    (done ++ signal.Constant (value / 2 ^ (left - 1) % 2 == 1) ∷ []) ++ map signal.Constant (bits_of_value (left - 1) value) ≡ all
bits_more done all left value some e =
    append_assoc done (signal.Constant (value / 2 ^ (left - 1) % 2 == 1) ∷ []) (map signal.Constant (bits_of_value (left - 1) value)) ∙ ap (λ bits. done ++ map signal.Constant bits) (sym (bits_step left value some)) ∙ e
