-- The patterns of each gate, as words.
use Rattle.std.proofs.Common.{ℕ, Bool, true, false, ◌≡◌, List, length, ap, arith, ◌∙◌}
use Rattle.std.specs.Prelude.{◌&&◌, ◌||◌, if◌then◌else◌}
use Rattle.dft_base.specs.Packed.{packed_bit}
use Rattle.dft_base.specs.Solutions.{xor}
use Rattle.dft_lanes.specs.Choices.{can, some_choice_of_two, some_choice_of_three}
use Rattle.dft_lanes.proofs.Holds.{Holds}

-- the words of an array, as a vector
pub loaded : (words lanes : List ℕ) → lanes ≡ words → length lanes ≡ 8 → Holds lanes (packed_bit words)
loaded words lanes value size = record { size = size; each = λ place. ap (λ (ws : List ℕ). packed_bit ws place) value }

-- the words hold which patterns can have each value
pub made : (zero one : List ℕ) {f g : ℕ → Bool} → Holds zero f → Holds one g → (spec : ℕ → Bool → Bool)
    → ((pattern : ℕ) → f pattern ≡ spec pattern false) → ((pattern : ℕ) → g pattern ≡ spec pattern true)
    → (pattern : ℕ) (value : Bool) → can (record { can_zero = zero; can_one = one }) pattern value ≡ spec pattern value
made zero one f_holds g_holds spec at_zero at_one pattern true = g_holds.each pattern ∙ at_one pattern
made zero one f_holds g_holds spec at_zero at_one pattern false = f_holds.each pattern ∙ at_zero pattern

pub and_zero : (a b : Bool → Bool) → (a false && (b false || b true)) || (a true && b false) ≡ some_choice_of_two (λ x y. x && y) a b false
and_zero a b = grind arith

pub and_one : (a b : Bool → Bool) → a true && b true ≡ some_choice_of_two (λ x y. x && y) a b true
and_one a b = grind arith

pub or_zero : (a b : Bool → Bool) → a false && b false ≡ some_choice_of_two (λ x y. x || y) a b false
or_zero a b = grind arith

pub or_one : (a b : Bool → Bool) → (a true && (b false || b true)) || (a false && b true) ≡ some_choice_of_two (λ x y. x || y) a b true
or_one a b = grind arith

pub xor_zero : (a b : Bool → Bool) → (a false && b false) || (a true && b true) ≡ some_choice_of_two xor a b false
xor_zero a b = grind arith

pub xor_one : (a b : Bool → Bool) → (a false && b true) || (a true && b false) ≡ some_choice_of_two xor a b true
xor_one a b = grind arith

pub mux_zero : (first second select : Bool → Bool)
    → ((select false && (second false || second true)) && first false) || ((select true && (first false || first true)) && second false)
    ≡ some_choice_of_three (λ x y s. if s then y else x) first second select false
mux_zero first second select = grind arith

pub mux_one : (first second select : Bool → Bool)
    → ((select false && (second false || second true)) && first true) || ((select true && (first false || first true)) && second true)
    ≡ some_choice_of_three (λ x y s. if s then y else x) first second select true
mux_one first second select = grind arith
